-- Which option of `admits` gives the key (this project's rule).
use Rattle.std.specs.Prelude.{List, Option, Some, None, Result, Ok, Err}
use Rattle.clap.specs.Words.{Row, Text}
use Rattle.ssh_print.specs.Responses.{Response, usage_response}
use Rattle.ssh_program.specs.declared.args.ArgName.TheVariants as option
use Rattle.ssh_program.specs.declared.args.KeyPlace.{KeyPlace}
use Rattle.ssh_program.specs.declared.args.KeyPlace.TheVariants as place
use Rattle.ssh_program.specs.Spelling.{given}

-- by what the two options give: exactly one of them has to be given
abbrev pub key_place_by : Option Text → Option Text → Result KeyPlace Response
key_place_by (Some key) None = Ok place.File
key_place_by None (Some fingerprint) = Ok place.Fingerprint
key_place_by keys fingerprints = Err usage_response

-- the key's file, or its fingerprint
abbrev pub key_place : List Row → Result KeyPlace Response
key_place rows = key_place_by (given option.Key rows) (given option.Fingerprint rows)
