-- The response to `explain` (this project's rule).
use Rattle.std.specs.Prelude.{◌≡◌, ◌++◌, ℕ, List, [], Option, Some, None, codes, if◌then◌else◌}
use Rattle.std.specs.List.{flat_map}
use Rattle.clap.specs.Words.{Row}
use Rattle.ssh_print.specs.Table.{table}
use Rattle.ssh_print.specs.Explaining.{code_line, first_unknown_code, row_text}
use Rattle.ssh_files.specs.SourceState.{SourceState}
use Rattle.ssh_files.specs.Loading.{NoReadFailed}
use Rattle.ssh_print.specs.Responses.{Response, value_response}
use Rattle.ssh_program.specs.Spelling.{names_given}
use Rattle.ssh_program.specs.Usage.{asks_usage, usage_lines}

-- the synopsis of the commands, if `usage` is among the codes
abbrev pub usage_after : List (List ℕ) → List ℕ
usage_after names = if asks_usage names then usage_lines else []

-- the lines of these codes, in their order, followed by those of `usage`; or the fault of an unknown code
abbrev pub explained_by : Option ℕ → List (List ℕ) → Response
explained_by None names = record { status = 0; text = flat_map code_line names ++ usage_after names }
explained_by (Some place) names = value_response (codes "code")

-- without a code, the lines of all codes
abbrev pub explained : Option (List (List ℕ)) → Response
explained None = record { status = 0; text = flat_map row_text table }
explained (Some names) = explained_by (first_unknown_code names) names

-- no file is read
abbrev pub RespondsToExplain : List Row → SourceState → Option SourceState → Response → Type 0
RespondsToExplain rows s t r = NoReadFailed s t × (r ≡ explained (names_given rows))
