-- The rows of an authorized_keys file on the page of a review: one for each line that has a record, in the order of the lines
-- (this project's rule).
use Rattle.std.specs.Prelude.{◌++◌, ◌∷◌, [], ℕ, List}
use Rattle.ssh_entries.specs.declared.auth_line.AuthLine.{AuthLine}
use Rattle.ssh_entries.specs.declared.auth_line.AuthLine.TheVariants.{Blank, Comment, Entry, Unreadable}
use Rattle.ssh_entries.specs.AuthGrammar.{auth_line}
use Rattle.ssh_findings.specs.Asking.{Asking}
use Rattle.ssh_findings.specs.Earlier.{Held}
use Rattle.ssh_findings.specs.Facts.{facts_of}
use Rattle.ssh_page.specs.Documents.{Document, nothing, ◌&◌}
use Rattle.ssh_page.specs.Records.{entry_row, unreadable_row}
use Rattle.ssh_review.specs.Lines.{held_by_line, key_reported, line_findings}
use Rattle.ssh_review.specs.RowPlaces.{row_place}

-- The row of a line with this reading, and its number, in the section of the file of this number: of the facts and the findings
-- of its record. Blank lines and comments have none.
abbrev pub line_row : ℕ → Asking → List Held → ℕ × List ℕ → AuthLine → Document
line_row file asking earlier (n, line) Blank = nothing
line_row file asking earlier (n, line) Comment = nothing
line_row file asking earlier (n, line) (Entry entry) =
    entry_row (row_place file n) (facts_of asking.zone entry) (line_findings asking earlier (Entry entry))
line_row file asking earlier (n, line) (Unreadable cause) =
    unreadable_row (row_place file n) (key_reported line) (line_findings asking earlier (Unreadable cause))

-- the rows of lines, each with its number, after the lines of these entries
abbrev pub rows_of : ℕ → Asking → List Held → List (ℕ × List ℕ) → Document
rows_of file asking earlier [] = nothing
rows_of file asking earlier (line ∷ lines) =
    line_row file asking earlier line (auth_line line.1)
    & rows_of file asking (earlier ++ held_by_line asking (line.0, auth_line line.1)) lines
