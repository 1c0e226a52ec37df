-- Findings as lines of text, as JSON objects, and in a cell of a table (this project's rule).
use Rattle.std.specs.Prelude.{◌++◌, ◌∷◌, [], ℕ, List, Option, Some, None, codes}
use Rattle.std.specs.Fmt.{decimal}
use Rattle.std.specs.List.{flat_map}
use Rattle.ssh_options.specs.declared.option_text.LineCause.{LineCause}
use Rattle.ssh_print.specs.Codes.{line_code, line_rest}
use Rattle.ssh_print.specs.Strings.{json_text}
use Rattle.ssh_print.specs.Table.{CodeRow, row_of}
use Rattle.ssh_findings.specs.Codes.{code_text}
use Rattle.ssh_findings.specs.declared.finding.Finding.{Finding}
use Rattle.ssh_findings.specs.declared.host_finding.HostFinding.{HostFinding}
use Rattle.ssh_findings.specs.declared.row.Value.{Value}
use Rattle.ssh_findings.specs.declared.row.Value.TheVariants.{Nothing, Number, Cause}
use Rattle.ssh_review.specs.Fields.{text_field}
use Rattle.ssh_review.specs.declared.record_field.FieldForm.{FieldForm}
use Rattle.ssh_review.specs.declared.record_field.FieldForm.TheVariants.{Cell, Member}
use Rattle.ssh_findings.specs.FindingRows.{FindingRow}
use Rattle.ssh_findings.specs.Findings.{auth_row}
use Rattle.ssh_findings.specs.HostFindingsFindings.{host_row}

-- ---- the detail and the sentence

-- the codes of a line's error
abbrev pub cause_detail : LineCause → List ℕ
cause_detail why = line_code why ++ line_rest why

-- a value after the word in the detail
abbrev pub detail_with : Value → List ℕ → List ℕ
detail_with Nothing word = word
detail_with (Number n) word = word ++ decimal n
detail_with (Cause why) word = word ++ cause_detail why

-- the detail after the code
abbrev pub row_detail : FindingRow → List ℕ
row_detail r = detail_with r.value r.detail

abbrev pub finding_sentence : Option CodeRow → List ℕ
finding_sentence None = []
finding_sentence (Some row) = row.sentence

-- why a line cannot be read: the sentence of its code in the table of codes
abbrev pub cause_text : LineCause → List ℕ
cause_text why = finding_sentence (row_of (line_code why))

-- a value in a sentence
abbrev pub value_text : Value → List ℕ
value_text Nothing = []
value_text (Number n) = decimal n
value_text (Cause why) = cause_text why

abbrev pub row_sentence : FindingRow → List ℕ
row_sentence r = r.before ++ value_text r.value ++ r.after

-- ---- as text

-- the detail after the code, after a space, if there is one
abbrev pub detail_part : List ℕ → List ℕ
detail_part [] = []
detail_part (c ∷ cs) = codes " " ++ c ∷ cs

-- the start of the line of a finding: its code and its detail
abbrev pub finding_head : List ℕ → List ℕ → List ℕ
finding_head code detail_text = codes "    " ++ code ++ detail_part detail_text ++ codes ": "

-- the line of a finding
abbrev pub row_line : FindingRow → List ℕ
row_line r = finding_head (code_text r.code) (row_detail r) ++ row_sentence r ++ codes "\n"

abbrev pub finding_line : Finding → List ℕ
finding_line f = row_line (auth_row f)

abbrev pub host_finding_line : HostFinding → List ℕ
host_finding_line f = row_line (host_row f)

-- ---- as JSON

-- a code and its detail
unfoldable pub code_object : List ℕ → List ℕ → List ℕ
code_object code detail_text = codes "{\"code\":" ++ json_text code ++ text_field (codes "detail") detail_text ++ codes "}"

abbrev pub row_object : FindingRow → List ℕ
row_object r = code_object (code_text r.code) (row_detail r)

abbrev pub object_after_comma : {F : Type 0} → (F → FindingRow) → F → List ℕ
object_after_comma row f = 44 ∷ row_object (row f)

-- the objects, separated by commas
abbrev pub rows_list : {F : Type 0} → (F → FindingRow) → List F → List ℕ
rows_list row [] = []
rows_list row (f ∷ others) = row_object (row f) ++ flat_map (object_after_comma row) others

-- the last field of a record, and the end of its line
abbrev pub rows_end : {F : Type 0} → (F → FindingRow) → List F → List ℕ
rows_end row found = codes ",\"findings\":[" ++ rows_list row found ++ codes "]}\n"

-- ---- in a cell

-- a code, and its detail
abbrev pub row_words : FindingRow → List ℕ
row_words r = code_text r.code ++ detail_part (row_detail r)

abbrev pub words_after_semicolon : {F : Type 0} → (F → FindingRow) → F → List ℕ
words_after_semicolon row f = codes "; " ++ row_words (row f)

-- the same of each, separated by semicolons
abbrev pub words_list : {F : Type 0} → (F → FindingRow) → List F → List ℕ
words_list row [] = []
words_list row (f ∷ others) = row_words (row f) ++ flat_map (words_after_semicolon row) others

-- the cell of the findings, a cell without a note, and the end of the line
abbrev pub cells_end : {F : Type 0} → (F → FindingRow) → List F → List ℕ
cells_end row found = codes "\t" ++ words_list row found ++ codes "\t" ++ codes "\n"

-- ---- the end of a record

abbrev pub record_end : {F : Type 0} → FieldForm → (F → FindingRow) → List F → List ℕ
record_end Member row found = rows_end row found
record_end Cell row found = cells_end row found

abbrev pub findings_end : FieldForm → List Finding → List ℕ
findings_end form found = record_end form auth_row found

abbrev pub host_findings_end : FieldForm → List HostFinding → List ℕ
host_findings_end form found = record_end form host_row found
