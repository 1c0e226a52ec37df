-- The models of the command line's values and errors in memory.
use Rattle.std.specs.Prelude.{◌≡◌, ◌≢◌, ℕ, List, Some, None, Result, Ok, Err, ⊤}
use Rattle.clap.specs.Words.{Row, found_of, kind_of, rows_of}
use Rattle.clap.specs.declared.error.Error.{Error}
use Rattle.clap.specs.declared.error.ErrorKind.TheVariants.{OutOfMemory}
use Rattle.ssh_print.specs.declared.response.Response.{Response as Printed}
use Rattle.ssh_print.specs.ResponseView.{response}
use Rattle.ssh_print.specs.Responses.{Response, usage_response, value_response}
use Rattle.ssh_program.specs.declared.command.CommandError.{CommandError}
use Rattle.ssh_program.specs.declared.command.CommandError.TheVariants.{Usage, Value, Memory}
use Rattle.ssh_program.specs.declared.command.Request.{Request}
use Rattle.ssh_program.specs.declared.command.WordsError.{WordsError}
use Rattle.ssh_program.specs.declared.command.WordsError.TheVariants as words
use Rattle.ssh_program.specs.declared.args.Args.{Args}
use Rattle.ssh_program.specs.CommandLine.{Request as Asked, request_of}
use Rattle.ssh_program.specs.Options.{option_word}

-- the values of the options
abbrev pub rows_in : Args → List Row
rows_in w = rows_of (found_of w.matches)

abbrev pub request_in_memory : Request → Asked
request_in_memory q = record { subcommand = q.subcommand; rows = rows_in q.words }

-- the request of the arguments, or a usage fault where they are none, unless memory could not be allocated
abbrev pub Parses : List (List ℕ) → Result Request WordsError → Type 0
Parses given (Ok r) = request_of given ≡ Some (request_in_memory r)
Parses given (Err words.Usage) = request_of given ≡ None
Parses given (Err words.Memory) = ⊤

-- the error of clap is one of memory, or it is not
abbrev pub FaultIs : Error → WordsError → Type 0
FaultIs e words.Usage = kind_of e ≢ OutOfMemory
FaultIs e words.Memory = ⊤

-- the value, or its error, unless memory could not be allocated
abbrev pub Spells : {V A : Type 0} → (V → A) → Result A Response → Result V CommandError → Type 0
Spells view wanted (Ok v) = wanted ≡ Ok (view v)
Spells view wanted (Err Usage) = wanted ≡ Err usage_response
Spells view wanted (Err (Value o)) = wanted ≡ Err (value_response (option_word o))
Spells view wanted (Err Memory) = ⊤

-- a fact about the response, or about the fault of an error, unless memory could not be allocated
abbrev pub IfAnswered : Result Printed CommandError → (Response → Type 0) → Type 0
IfAnswered (Ok r) P = P (response r)
IfAnswered (Err Usage) P = P usage_response
IfAnswered (Err (Value o)) P = P (value_response (option_word o))
IfAnswered (Err Memory) P = ⊤
