-- What the names of the files of a review are, by `--labels` (this project's rule).
use Rattle.std.specs.Prelude.{Bool, true, is_some, List, Option, Some, None, Result, Ok, Err, codes, if◌then◌else◌, map, option_and_then, option_map}
use Rattle.std.specs.List.{list_all}
use Rattle.std.specs.Str.{bytes_eq}
use Rattle.clap.specs.Words.{Row, Text}
use Rattle.ssh_wire.specs.Reading.{◌>>=◌}
use Rattle.ssh_print.specs.Responses.{Response, value_response}
use Rattle.ssh_review.specs.FileNames.{NameSeen}
use Rattle.ssh_program.specs.declared.args.ArgName.TheVariants as option
use Rattle.ssh_program.specs.declared.naming.ListedNames.{ListedNames}
use Rattle.ssh_program.specs.declared.naming.Naming.{Naming}
use Rattle.ssh_program.specs.declared.naming.Naming.TheVariants.{Labelled, Path}
use Rattle.ssh_program.specs.HostPorts.{cut}
use Rattle.ssh_program.specs.Options.{option_word}
use Rattle.ssh_program.specs.Spelling.{given, or_fault}

-- host, account and path of `HOST<TAB>ACCOUNT<TAB>PATH`; the path may have tabs
abbrev pub labelled : Text → Option NameSeen
labelled word =
    option_and_then (λ h. option_map (λ a. record { path = a.1; labels = Some (record { host = h.0; account = a.0 }) }) (cut 9 h.1)) (cut 9 word)

-- whether a word has the labels that names are to have
abbrev pub is_named : Naming → Text → Bool
is_named Path word = true
is_named Labelled word = is_some (labelled word)

abbrev pub plain_name : Text → NameSeen
plain_name word = record { path = word; labels = None }

abbrev pub name_or : Text → Option NameSeen → NameSeen
name_or word None = plain_name word
name_or word (Some name) = name

-- what a word names
abbrev pub named : Naming → Text → NameSeen
named Path word = plain_name word
named Labelled word = name_or word (labelled word)

abbrev pub names_seen : ListedNames → List NameSeen
names_seen names = map (λ word. named names.naming word.now) names.words.now

-- ---- the option

abbrev pub naming_of : Text → Option Naming
naming_of word = if bytes_eq word (codes "host,account") then Some Labelled else None

abbrev pub naming_by : Option Text → Result Naming Response
naming_by None = Ok Path
naming_by (Some word) = or_fault option.Labels (naming_of word)

abbrev pub naming_asked : List Row → Result Naming Response
naming_asked rows = naming_by (given option.Labels rows)

abbrev pub names_by : Naming → List Text → Result (List NameSeen) Response
names_by naming words = if list_all (is_named naming) words then Ok (map (named naming) words) else Err (value_response (option_word option.Labels))

abbrev pub names_asked : List Row → List Text → Result (List NameSeen) Response
names_asked rows words = do
  naming ← naming_asked rows
  names_by naming words
