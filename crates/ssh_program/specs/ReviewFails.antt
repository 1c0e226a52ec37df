-- Which findings make the status of a review 1: the value of `--fail-on` (this project's rule).
use Rattle.std.specs.Prelude.{Bool, List, Option, Some, None, Result, Ok, Err, if◌then◌else◌, nat_lt}
use Rattle.std.specs.List.{list_all, list_any}
use Rattle.clap.specs.Words.{Row, Text}
use Rattle.ssh_findings.specs.CodeCounts.{number_of}
use Rattle.ssh_findings.specs.Codes.{codes_in, same_code}
use Rattle.ssh_findings.specs.declared.code.Code.{Code}
use Rattle.ssh_findings.specs.declared.code_counts.CodeCounts.{CodeCounts}
use Rattle.ssh_print.specs.Responses.{Response, usage_response}
use Rattle.ssh_wire.specs.Reading.{◌>>=◌}
use Rattle.ssh_program.specs.declared.args.ArgName.TheVariants as option
use Rattle.ssh_program.specs.Spelling.{given, or_fault}

-- a finding with one of these codes was counted
abbrev pub fails_by : List Code → CodeCounts → Bool
fails_by failing counts = list_any (λ code. nat_lt 0 (number_of counts code)) failing

-- findings with each of these codes are reported
abbrev pub are_reported : List Code → List Code → Bool
are_reported reported codes = list_all (λ code. list_any (λ c. same_code c code) reported) codes

-- the codes of a list, each of which has to be reported
abbrev pub failing_listed : List Code → Text → Result (List Code) Response
failing_listed reported text = do
  codes ← or_fault option.FailOn (codes_in text)
  if are_reported reported codes then Ok codes else Err usage_response

-- by what `--fail-on` and `--key` give: not both of them
abbrev pub failing_by : List Code → Option Text → Option Text → Result (List Code) Response
failing_by reported None key = Ok reported
failing_by reported (Some text) (Some key) = Err usage_response
failing_by reported (Some text) None = failing_listed reported text

-- the codes whose findings make the status 1: those that are reported where the option is not given
abbrev pub failing_asked : List Code → List Row → Result (List Code) Response
failing_asked reported rows = failing_by reported (given option.FailOn rows) (given option.Key rows)
