-- A finding on the page (this project's rule): its code and detail, its sentence, and a link to the line that it names.
use Rattle.std.specs.Prelude.{◌++◌, [], ◌||◌, ◌==◌, ℕ, Bool, true, false, not, length, List, Option, Some, None, codes, if◌then◌else◌}
use Rattle.ssh_options.specs.declared.option_text.LineCause.{LineCause}
use Rattle.ssh_print.specs.Codes.{line_code, line_rest}
use Rattle.ssh_print.specs.Table.{CodeRow, row_of}
use Rattle.ssh_findings.specs.Codes.{code_text}
use Rattle.ssh_findings.specs.FindingRows.{FindingRow}
use Rattle.ssh_findings.specs.declared.code.Code.{Code}
use Rattle.ssh_findings.specs.declared.code.Code.TheVariants as code
use Rattle.ssh_findings.specs.declared.row.Value.{Value}
use Rattle.ssh_findings.specs.declared.row.Value.TheVariants.{Nothing, Number, Cause}
use Rattle.ssh_page.specs.declared.piece.Piece.TheVariants.{Finding, FindingCode, FindingSays, SeeFile, LineId, SeeLine, LinkEnd, LimitEnd}
use Rattle.ssh_page.specs.Documents.{Document, nothing, put, say, count, ◌&◌}
use Rattle.ssh_page.specs.Classes.{class_of}

-- why a line cannot be read: the sentence of its code in the table of codes
abbrev pub sentence_of : Option CodeRow → List ℕ
sentence_of None = []
sentence_of (Some row) = row.sentence

abbrev pub cause_sentence : LineCause → List ℕ
cause_sentence why = sentence_of (row_of (line_code why))

-- the codes of a line's error
abbrev pub cause_codes : LineCause → List ℕ
cause_codes why = line_code why ++ line_rest why

-- a value in the detail
abbrev pub value_detail : Value → Document
value_detail Nothing = nothing
value_detail (Number n) = count n
value_detail (Cause why) = say (cause_codes why)

-- a value in the sentence
abbrev pub value_sentence : Value → Document
value_sentence Nothing = nothing
value_sentence (Number n) = count n
value_sentence (Cause why) = say (cause_sentence why)

abbrev pub has_value : Value → Bool
has_value Nothing = false
has_value (Number n) = true
has_value (Cause why) = true

abbrev pub has_bytes : List ℕ → Bool
has_bytes text = not (length text == 0)

-- the detail after the code, after a space, if there is one
unfoldable pub detail : FindingRow → Document
detail r = if has_bytes r.detail || has_value r.value then say (codes " ") & say r.detail & value_detail r.value else nothing

-- the codes that name another line of the same file
abbrev pub names_a_line : Code → Bool
names_a_line code.SameKey = true
names_a_line code.NeverDecides = true
names_a_line code.GivesMore = true
names_a_line code.OtherKey = true
names_a_line code.TrustedAndRevoked = true
names_a_line code.SameHostKey = true
names_a_line other = false

-- a link to a line of the file of this number
unfoldable pub line_link : ℕ → ℕ → Document
line_link file line = put SeeFile & count file & put LineId & count line & put SeeLine & count line & put LinkEnd

-- the same of the line that a value is
abbrev pub value_link : ℕ → Value → Document
value_link file Nothing = nothing
value_link file (Number line) = line_link file line
value_link file (Cause why) = nothing

-- the link to the line that a finding names, if it names one
abbrev pub link : ℕ → FindingRow → Document
link file r = if names_a_line r.code then value_link file r.value else nothing

-- the first part of a finding: its classes, its code and its detail
unfoldable pub finding_head : FindingRow → Document
finding_head r = put Finding & class_of r.code & put FindingCode & say (code_text r.code) & detail r & put FindingSays

-- a finding of a line of the file of this number
unfoldable pub finding_part : ℕ → FindingRow → Document
finding_part file r = finding_head r & say r.before & value_sentence r.value & say r.after & link file r & put LimitEnd
