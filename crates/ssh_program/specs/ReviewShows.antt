-- What of a review is shown: the value of `--show` (this project's rule).
use Rattle.std.specs.Prelude.{List, Option, Some, None, Result, Ok, Err, codes, if◌then◌else◌}
use Rattle.std.specs.Str.{bytes_eq}
use Rattle.clap.specs.Words.{Row, Text}
use Rattle.ssh_print.specs.Responses.{Response, usage_response}
use Rattle.ssh_review.specs.declared.show.Show.{Show}
use Rattle.ssh_review.specs.declared.show.Show.TheVariants.{All, Found, Totals}
use Rattle.ssh_program.specs.declared.args.ArgName.TheVariants as option
use Rattle.ssh_program.specs.Spelling.{given, or_fault}

abbrev pub show_of : Text → Option Show
show_of word =
    if bytes_eq word (codes "all") then Some All
    else if bytes_eq word (codes "found") then Some Found
    else if bytes_eq word (codes "totals") then Some Totals
    else None

-- by what `--show` and `--key` give: not both of them
abbrev pub show_by : Option Text → Option Text → Result Show Response
show_by None key = Ok All
show_by (Some word) (Some key) = Err usage_response
show_by (Some word) None = or_fault option.Show (show_of word)

-- what of a review is shown: all where the option is not given
abbrev pub show_asked : List Row → Result Show Response
show_asked rows = show_by (given option.Show rows) (given option.Key rows)
