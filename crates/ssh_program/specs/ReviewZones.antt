-- The time zone of a review: the value of `--zone`, and whether it was given for the files (this project's rule).
use Rattle.std.specs.Prelude.{ℕ, Bool, false, not, List, drop, Option, Some, None, option_map, codes, if◌then◌else◌, nat_eq}
use Rattle.std.specs.List.{starts_with}
use Rattle.clap.specs.Words.{Row}
use Rattle.ssh_files.specs.Values.{zone_text}
use Rattle.ssh_program.specs.declared.args.ArgName.TheVariants as option
use Rattle.ssh_program.specs.Spelling.{given}

-- before a rule: it is that of this machine, and no zone was given for the files
abbrev pub local_mark : List ℕ
local_mark = codes "local:"

-- the rule of a value
abbrev pub rule_in : List ℕ → List ℕ
rule_in text = if starts_with nat_eq text local_mark then drop 6 text else text

-- whether a value, if there is one, is a zone that was given for the files
abbrev pub gives_zone : Option (List ℕ) → Bool
gives_zone None = false
gives_zone (Some text) = not (starts_with nat_eq text local_mark)

-- the rule of the zone that the options ask with: UTC where none is said
abbrev pub review_rule : List Row → List ℕ
review_rule rows = zone_text (option_map rule_in (given option.Zone rows))

-- whether the options give the zone of the files
abbrev pub is_zone_given : List Row → Bool
is_zone_given rows = gives_zone (given option.Zone rows)
