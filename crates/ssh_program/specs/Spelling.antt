-- The values of options, and the faults of invalid ones.
use Rattle.std.specs.Prelude.{◌≡◌, ℕ, Bool, false, List, Option, Some, None, Result, Ok, Err}
use Rattle.std.specs.Option.{ok_or}
use Rattle.clap.specs.Words.{Row, Text, all_of, first_of}
use Rattle.ssh_wire.specs.Reading.{◌>>=◌}
use Rattle.ssh_files.specs.SourceState.{SourceState}
use Rattle.ssh_files.specs.Loading.{NoReadFailed}
use Rattle.ssh_files.specs.Values.{has_pairs}
use Rattle.ssh_print.specs.Responses.{Response, usage_response, value_response}
use Rattle.ssh_program.specs.declared.command.CommandError.{CommandError}
use Rattle.ssh_program.specs.declared.command.CommandError.TheVariants.{Usage, Value, Memory}
use Rattle.ssh_program.specs.declared.args.ArgName.{ArgName}
use Rattle.ssh_program.specs.declared.args.ArgName.TheVariants.{Body, File, Message, Namespace, Vouch}
use Rattle.ssh_program.specs.FileNames.{AuditFiles, SshsigQuestion}
use Rattle.ssh_program.specs.Options.{names_id, option_word}

-- ---- texts

-- the text of an option, if it is given
abbrev pub given : ArgName → List Row → Option Text
given o rows = first_of (option_word o) rows

-- the text of an option that has to be given
abbrev pub needed : ArgName → List Row → Result Text Response
needed o rows = ok_or (given o rows) usage_response

-- the operands, in their order, if there are any
abbrev pub names_given : List Row → Option (List Text)
names_given rows = all_of names_id rows

abbrev pub names_needed : List Row → Result (List Text) Response
names_needed rows = ok_or (names_given rows) usage_response

-- whether the text of an option, if it is given, has pairs of digits
abbrev pub pairs_given : Option Text → Bool
pairs_given None = false
pairs_given (Some text) = has_pairs text

-- ---- values

-- a value, or the fault that names the option
abbrev pub or_fault : {A : Type 0} → ArgName → Option A → Result A Response
or_fault o v = ok_or v (value_response (option_word o))

-- the value of an option's text, by this reading
abbrev pub value : {A : Type 0} → (Text → Option A) → ArgName → List Row → Result A Response
value spells o rows = do
  text ← needed o rows
  or_fault o (spells text)

-- the value of a text; without a text, the default
abbrev pub read_or : {A : Type 0} → A → (Text → Option A) → Option Text → Option A
read_or absent spells None = Some absent
read_or absent spells (Some text) = spells text

-- the value of an option that may be left out; without it, the default
abbrev pub value_or : {A : Type 0} → A → (Text → Option A) → ArgName → List Row → Result A Response
value_or absent spells o rows = or_fault o (read_or absent spells (given o rows))

-- the default port of ssh(1)
abbrev pub usual_port : ℕ
usual_port = 22

-- the names of the files of `login` and `host`
abbrev pub audit_files : List Row → Result AuditFiles Response
audit_files rows = do
  trust ← needed File rows
  Ok (record { trust = trust; vouch = given Vouch rows })

-- the options of `sshsig`
abbrev pub sshsig_question : List Row → Result SshsigQuestion Response
sshsig_question rows = do
  body ← needed Body rows
  message ← needed Message rows
  namespace ← needed Namespace rows
  Ok (record { body = body; message = message; namespace = namespace; vouch = given Vouch rows })

-- ---- answers

-- the response to valid options; for invalid ones the response is the fault and no file is read
abbrev pub RespondsTo : {Q : Type 0} → (Q → SourceState → Option SourceState → Response → Type 0) → Result Q Response → SourceState → Option SourceState → Response → Type 0
RespondsTo responds (Err e) s t r = NoReadFailed s t × (r ≡ e)
RespondsTo responds (Ok q) s t r = responds q s t r

-- the response to an error, unless memory could not be allocated
abbrev pub IsReportedAs : CommandError → Response → Type 0
IsReportedAs Usage r = r ≡ usage_response
IsReportedAs (Value o) r = r ≡ value_response (option_word o)
IsReportedAs Memory r = ⊥
