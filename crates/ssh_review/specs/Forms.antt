-- The records, the ends and the total of a review in each output format, and the records as rows of the page (this project's rule).
use Rattle.std.specs.Prelude.{ℕ, Bool, List, [], Option}
use Rattle.ssh_options.specs.AuthOption.{AuthOption}
use Rattle.ssh_findings.specs.declared.facts.Facts.{Facts}
use Rattle.ssh_findings.specs.declared.finding.Finding.{Finding}
use Rattle.ssh_findings.specs.declared.recovered_key.HeldKey.{HeldKey}
use Rattle.ssh_page.specs.Documents.{marks}
use Rattle.ssh_page.specs.Records.{entry_row, unreadable_row}
use Rattle.ssh_review.specs.Objects.{entry_in, unreadable_in}
use Rattle.ssh_review.specs.declared.record_field.FieldForm.TheVariants.{Cell, Member}
use Rattle.ssh_review.specs.Tables.{end_row, fault_row, header, total_row}
use Rattle.ssh_review.specs.declared.end.Counts.{Counts}
use Rattle.ssh_review.specs.declared.end.FileFault.{FileFault}
use Rattle.ssh_review.specs.declared.end.Total.{Total}
use Rattle.ssh_review.specs.declared.end.Form.{Form}
use Rattle.ssh_review.specs.declared.end.Form.TheVariants.{Json, Line, Text}
use Rattle.ssh_review.specs.declared.records.RecordForm.{RecordForm}
use Rattle.ssh_review.specs.declared.records.RecordForm.TheVariants.{AsLines, AsRow}
use Rattle.ssh_review.specs.RowPlaces.{row_place}
use Rattle.ssh_review.specs.Records.{entry_text, unreadable_text}
use Rattle.ssh_findings.specs.Asking.{Asking}
use Rattle.ssh_review.specs.Ends.{end_text, fault_text, total_text}
use Rattle.ssh_review.specs.EndObjects.{end_object, fault_object, total_object}

-- The record of an entry with these options, with the line that lets its key in first, if there is one, whether this one
-- may let it in, and the reported findings.
abbrev pub entry_record : RecordForm → List ℕ → ℕ → Facts → List AuthOption → Option ℕ → Bool → List Finding → List ℕ
entry_record (AsLines Text) name n f options shadowed_by lets_in found = entry_text name n f found
entry_record (AsLines Json) name n f options shadowed_by lets_in found = entry_in Member name n f options shadowed_by lets_in found
entry_record (AsLines (Line kind)) name n f options shadowed_by lets_in found = entry_in Cell name n f options shadowed_by lets_in found
entry_record (AsRow file) name n f options shadowed_by lets_in found = marks (entry_row (row_place file n) f found)

-- the record of a line that cannot be read, with its recovered key (the key that OpenSSH reads there), if there is one
abbrev pub unreadable_record : RecordForm → List ℕ → ℕ → Option HeldKey → List Finding → List ℕ
unreadable_record (AsLines Text) name n held found = unreadable_text name n held found
unreadable_record (AsLines Json) name n held found = unreadable_in Member name n held found
unreadable_record (AsLines (Line kind)) name n held found = unreadable_in Cell name n held found
unreadable_record (AsRow file) name n held found = marks (unreadable_row (row_place file n) held found)

-- the end of a file, with the SHA-256 of its bytes
abbrev pub end_line : Form → List ℕ → Counts → List ℕ → List ℕ
end_line Text name counts digest = end_text name counts digest
end_line Json name counts digest = end_object name counts digest
end_line (Line kind) name counts digest = end_row kind name counts digest

-- the end of a file with a fault
abbrev pub file_fault_line : Form → List ℕ → FileFault → List ℕ
file_fault_line Text name fault = fault_text name fault
file_fault_line Json name fault = fault_object name fault
file_fault_line (Line kind) name fault = fault_row kind name fault

-- the total of all files of a format, asked in the time zone of this POSIX rule
abbrev pub total_line : Form → List ℕ → List ℕ → Asking → Total → List ℕ
total_line Text kind zone asking t = total_text zone asking t
total_line Json kind zone asking t = total_object kind zone asking t
total_line (Line files) kind zone asking t = total_row files zone asking t

-- what stands before the records of the first file: a table has a header
abbrev pub first_lines : Form → List ℕ
first_lines Text = []
first_lines Json = []
first_lines (Line kind) = header kind
