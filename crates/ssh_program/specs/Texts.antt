-- Texts of options that are given on the command line or in a file (this project's rule).
use Rattle.std.specs.Prelude.{List, Option, Some, None, Result, Ok, Err}
use Rattle.clap.specs.Words.{Row, Text}
use Rattle.ssh_wire.specs.Reading.{◌>>=◌}
use Rattle.ssh_print.specs.Responses.{Response, usage_response}
use Rattle.ssh_program.specs.declared.args.ArgName.{ArgName}
use Rattle.ssh_program.specs.declared.args.ArgName.TheVariants as option
use Rattle.ssh_program.specs.Spelling.{given, or_fault}

-- a text, and the option that gives it
pub record OptionText : Type 0 where
  pub option : ArgName
  pub text : Text

-- where the text is: in the argument itself, or on the first line of the file of a name
pub data TextPlace : Type 0 where
  in_word : OptionText → TextPlace
  in_file : OptionText → TextPlace

-- the place by what the two options give; exactly one of them has to be given
abbrev pub place_by : ArgName → ArgName → Option Text → Option Text → Result TextPlace Response
place_by here there (Some text) None = Ok (TextPlace.in_word (record { option = here; text = text }))
place_by here there None (Some name) = Ok (TextPlace.in_file (record { option = there; text = name }))
place_by here there texts names = Err usage_response

-- the place of a text that one option gives itself, and the other by the name of a file
abbrev pub text_place : ArgName → ArgName → List Row → Result TextPlace Response
text_place here there rows = place_by here there (given here rows) (given there rows)

-- the places of the texts of an offer and of its signature
pub record TextPlaces : Type 0 where
  pub offer : TextPlace
  pub signature : TextPlace

abbrev pub text_places : List Row → Result TextPlaces Response
text_places rows = do
  offer ← text_place option.Offer option.OfferFile rows
  signature ← text_place option.Signature option.SignatureFile rows
  Ok (record { offer = offer; signature = signature })

-- the value of a text, by this reading; or the fault that names its option
abbrev pub spelled_by : {A : Type 0} → (Text → Option A) → OptionText → Result A Response
spelled_by spells t = or_fault t.option (spells t.text)
