-- A review as a table: one record a line, with a tab (9) before each cell but the first (this project's rule). So the cells of
-- a column are found by counting tabs.
use Rattle.std.specs.Prelude.{◌≡◌, ◌==◌, ◌||◌, ◌+◌, ◌++◌, ◌∷◌, [], ℕ, Bool, true, List, codes, if◌then◌else◌}
use Rattle.std.specs.List.{list_all}
use Rattle.ssh_findings.specs.Asking.{Asking}
use Rattle.ssh_page.specs.declared.file.FileKind.{FileKind}
use Rattle.ssh_page.specs.declared.file.FileKind.TheVariants.{AuthorizedKeys, KnownHosts}
use Rattle.ssh_review.specs.declared.end.Counts.{Counts}
use Rattle.ssh_review.specs.declared.end.FileFault.{FileFault}
use Rattle.ssh_review.specs.declared.end.Total.{Total}
use Rattle.ssh_review.specs.Ends.{end_words, fault_words, total_words}
use Rattle.ssh_review.specs.OneLine.{is_printable}

-- The first line has the names of the columns: those of the fields of a JSON object, in their order, and `note`.
abbrev pub header : FileKind → List ℕ
header AuthorizedKeys = codes "file\thost\taccount\tline\twhat\ttype\tbits\tkey\tcomment\toptions\trights\tcommand\tsource\tprincipals\texpires\tshadowed_by\tlets_in\tfindings\tnote\n"
header KnownHosts = codes "file\thost\taccount\tline\twhat\ttype\tbits\tkey\tcomment\tnames\tfindings\tnote\n"

-- the cells between what a line is and its note, where all are empty
abbrev pub empty_cells : FileKind → List ℕ
empty_cells AuthorizedKeys = codes "\t\t\t\t\t\t\t\t\t\t\t\t\t"
empty_cells KnownHosts = codes "\t\t\t\t\t\t"

-- a row with a note alone, behind these cells
abbrev pub note_row : FileKind → List ℕ → List ℕ → List ℕ
note_row kind front note = front ++ empty_cells kind ++ codes "\t" ++ note ++ codes "\n"

-- the end of a file, whose row has no line: its note is what the text form says
abbrev pub end_row : FileKind → List ℕ → Counts → List ℕ → List ℕ
end_row kind head counts digest = note_row kind (head ++ codes "\t\tend") (end_words counts digest)

-- the end of a file with a fault
abbrev pub fault_row : FileKind → List ℕ → FileFault → List ℕ
fault_row kind head fault = note_row kind (head ++ codes "\t\tend") (fault_words fault)

-- the total of all files, in the words of the text form
abbrev pub total_row : FileKind → List ℕ → Asking → Total → List ℕ
total_row kind zone asking t = note_row kind (codes "\t\t\t\ttotal") (total_words zone asking t)

-- ---- rows

-- a printable byte, or a tab
abbrev pub is_in_row : ℕ → Bool
is_in_row c = is_printable c || c == 9

abbrev pub tabs_in : List ℕ → ℕ
tabs_in [] = 0
tabs_in (c ∷ cs) = if c == 9 then 1 + tabs_in cs else tabs_in cs

-- A text is one line of a table of files of this kind: printable ASCII with as many tabs as the header has, and an LF behind it.
pub record IsRow (kind : FileKind) (text : List ℕ) : Type 0 where
  pub cells : List ℕ
  pub parts : text ≡ cells ++ codes "\n"
  pub shown : list_all is_in_row cells ≡ true
  pub tabs : tabs_in cells ≡ tabs_in (header kind)
