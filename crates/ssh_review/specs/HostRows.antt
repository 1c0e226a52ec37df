-- The rows of a known_hosts file on the page of a review: one for each line that has a record, in the order of the lines (this
-- project's rule).
use Rattle.std.specs.Prelude.{◌++◌, ◌∷◌, [], ℕ, List, codes}
use Rattle.ssh_entries.specs.declared.known_line.KnownLine.{KnownLine}
use Rattle.ssh_entries.specs.declared.known_line.KnownLine.TheVariants.{Blank, Comment, Entry, Revoked, RevokedUnreadable, Unreadable}
use Rattle.ssh_entries.specs.KnownGrammar.{known_line}
use Rattle.ssh_findings.specs.Asking.{Asking}
use Rattle.ssh_findings.specs.HostFacts.{host_facts_of}
use Rattle.ssh_findings.specs.HostLines.{HostLine}
use Rattle.ssh_findings.specs.RevocationFacts.{revocation_facts_of}
use Rattle.ssh_page.specs.Documents.{Document, nothing, ◌&◌}
use Rattle.ssh_page.specs.HostRecords.{bare_row, host_entry_row, revoked_row}
use Rattle.ssh_review.specs.HostLines.{host_kept_of, host_line_findings, known_key_reported}
use Rattle.ssh_review.specs.HostRecords.{print_of}
use Rattle.ssh_review.specs.RowPlaces.{row_place}

-- The row of a line with this reading, and its number, in the section of the file of this number: of the facts and the findings
-- of its record. Blank lines and comments have none.
abbrev pub host_line_row : ℕ → Asking → List HostLine → ℕ → List ℕ → KnownLine → Document
host_line_row file asking earlier n line Blank = nothing
host_line_row file asking earlier n line Comment = nothing
host_line_row file asking earlier n line (Entry entry) =
    host_entry_row (row_place file n) (host_facts_of line entry) (host_line_findings asking earlier line (Entry entry))
host_line_row file asking earlier n line (Revoked bytes) =
    revoked_row (row_place file n) (print_of bytes) (revocation_facts_of line bytes).names (host_line_findings asking earlier line (Revoked bytes))
host_line_row file asking earlier n line RevokedUnreadable =
    bare_row (row_place file n) (codes "revocation-unreadable") (known_key_reported line) (host_line_findings asking earlier line RevokedUnreadable)
host_line_row file asking earlier n line (Unreadable cause) =
    bare_row (row_place file n) (codes "unreadable") (known_key_reported line) (host_line_findings asking earlier line (Unreadable cause))

-- the rows of lines, each with its number, after these lines
abbrev pub host_rows_of : ℕ → Asking → List HostLine → List (ℕ × List ℕ) → Document
host_rows_of file asking earlier [] = nothing
host_rows_of file asking earlier (line ∷ lines) =
    host_line_row file asking earlier line.0 line.1 (known_line line.1)
    & host_rows_of file asking (earlier ++ host_kept_of line.0 line.1 (known_line line.1)) lines
