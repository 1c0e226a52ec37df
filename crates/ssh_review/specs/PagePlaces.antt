-- The lines of a file that have a finding of a code, which the page lists (this project's rule).
use Rattle.std.specs.Prelude.{◌++◌, ◌∷◌, [], ℕ, List}
use Rattle.ssh_entries.specs.AuthGrammar.{auth_line}
use Rattle.ssh_entries.specs.KnownGrammar.{known_line}
use Rattle.ssh_findings.specs.Asking.{Asking}
use Rattle.ssh_findings.specs.Earlier.{Held}
use Rattle.ssh_findings.specs.Findings.{auth_row}
use Rattle.ssh_findings.specs.HostFindingsFindings.{host_row}
use Rattle.ssh_findings.specs.HostLines.{HostLine}
use Rattle.ssh_findings.specs.declared.code.Code.{Code}
use Rattle.ssh_page.specs.FoundRows.{found_place}
use Rattle.ssh_page.specs.declared.file.FileKind.{FileKind}
use Rattle.ssh_page.specs.declared.file.FileKind.TheVariants.{AuthorizedKeys, KnownHosts}
use Rattle.ssh_page.specs.declared.record.RowPlace.{RowPlace}
use Rattle.ssh_text.specs.Text.{lines_of, numbered}
use Rattle.ssh_review.specs.HostLines.{host_kept_of, host_line_findings}
use Rattle.ssh_review.specs.Lines.{held_by_line, line_findings}
use Rattle.ssh_review.specs.RowPlaces.{row_place}

-- those of lines, each with its number, after the lines of these entries, in the section of the file of this number
abbrev pub places_of : Code → ℕ → Asking → List Held → List (ℕ × List ℕ) → List RowPlace
places_of c file asking earlier [] = []
places_of c file asking earlier (line ∷ lines) =
    found_place auth_row c (row_place file line.0) (line_findings asking earlier (auth_line line.1))
    ++ places_of c file asking (earlier ++ held_by_line asking (line.0, auth_line line.1)) lines

-- the same of a known_hosts file
abbrev pub host_places_of : Code → ℕ → Asking → List HostLine → List (ℕ × List ℕ) → List RowPlace
host_places_of c file asking earlier [] = []
host_places_of c file asking earlier (line ∷ lines) =
    found_place host_row c (row_place file line.0) (host_line_findings asking earlier line.1 (known_line line.1))
    ++ host_places_of c file asking (earlier ++ host_kept_of line.0 line.1 (known_line line.1)) lines

-- of a file
abbrev pub file_places : FileKind → Code → ℕ → Asking → List ℕ → List RowPlace
file_places AuthorizedKeys c number asking file = places_of c number asking [] (numbered 1 (lines_of file))
file_places KnownHosts c number asking file = host_places_of c number asking [] (numbered 1 (lines_of file))
