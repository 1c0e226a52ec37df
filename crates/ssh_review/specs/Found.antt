-- How often each code was found in all files, as the total prints it (this project's rule).
use Rattle.std.specs.Prelude.{◌++◌, ◌∷◌, [], ℕ, List, codes, flat_map, if◌then◌else◌, nat_lt}
use Rattle.std.specs.Fmt.{decimal}
use Rattle.ssh_findings.specs.CodeCounts.{number_of}
use Rattle.ssh_findings.specs.Codes.{all_codes, code_text}
use Rattle.ssh_findings.specs.Urgency.{how_soon, same_urgency}
use Rattle.ssh_findings.specs.declared.code.Code.{Code}
use Rattle.ssh_findings.specs.declared.code_counts.CodeCounts.{CodeCounts}
use Rattle.ssh_findings.specs.declared.urgency.Urgency.{Urgency}
use Rattle.ssh_findings.specs.declared.urgency.Urgency.TheVariants.{Today, Soon, TidyUp, Policy}
use Rattle.ssh_print.specs.AnswerText.{sentence}
use Rattle.ssh_review.specs.Fields.{count_field, object_field}

-- ---- as text

-- the line of a code that was found: how often, and what it means by the table of codes
abbrev pub found_line : Code → ℕ → List ℕ
found_line c n =
    if nat_lt 0 n then code_text c ++ codes ": " ++ decimal n ++ codes ", " ++ sentence (code_text c) ++ codes "\n" else []

-- no line for a code of another urgency
abbrev pub urgent_line : CodeCounts → Urgency → Code → List ℕ
urgent_line counts urgency c = if same_urgency (how_soon c) urgency then found_line c (number_of counts c) else []

-- the lines of the codes of an urgency, in ascending order
abbrev pub urgent_lines : CodeCounts → List Code → Urgency → List ℕ
urgent_lines counts listed urgency = flat_map (urgent_line counts urgency) listed

-- the lines of all codes, the most urgent first
unfoldable pub found_lines : CodeCounts → List ℕ
found_lines counts = flat_map (urgent_lines counts all_codes) (Today ∷ Soon ∷ TidyUp ∷ Policy ∷ [])

-- ---- as JSON

-- the field of a code that was found: how often
abbrev pub found_field : CodeCounts → Code → List ℕ
found_field counts c = count_field (code_text c) (number_of counts c)

-- the fields of all codes, in ascending order
unfoldable pub found_object : CodeCounts → List ℕ
found_object counts = object_field (codes "findings_by_code") (flat_map (found_field counts) all_codes)
