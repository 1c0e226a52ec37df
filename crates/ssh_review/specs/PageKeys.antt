-- The lines of a file that have a key, which the page lists by key (this project's rule).
use Rattle.std.specs.Prelude.{◌∷◌, [], ℕ, false, not, List}
use Rattle.std.specs.List.{flat_map}
use Rattle.ssh_entries.specs.declared.auth_line.AuthLine.{AuthLine}
use Rattle.ssh_entries.specs.declared.auth_line.AuthLine.TheVariants.{Blank, Comment, Entry, Unreadable}
use Rattle.ssh_entries.specs.declared.known_line.KnownLine.{KnownLine}
use Rattle.ssh_entries.specs.declared.known_line.KnownLine.TheVariants as known
use Rattle.ssh_entries.specs.AuthGrammar.{auth_line}
use Rattle.ssh_entries.specs.KnownGrammar.{known_line}
use Rattle.ssh_findings.specs.Asking.{Asking}
use Rattle.ssh_findings.specs.Facts.{facts_of}
use Rattle.ssh_findings.specs.HostFacts.{host_facts_of}
use Rattle.ssh_findings.specs.declared.facts.Facts.{Facts}
use Rattle.ssh_findings.specs.declared.host_facts.HostFacts.{HostFacts}
use Rattle.ssh_page.specs.KeyRows.{KeyRowSeen, held_rows, is_unlimited, row_of}
use Rattle.ssh_page.specs.declared.file.FileKind.{FileKind}
use Rattle.ssh_page.specs.declared.file.FileKind.TheVariants.{AuthorizedKeys, KnownHosts}
use Rattle.ssh_page.specs.declared.record.RowPlace.{RowPlace}
use Rattle.ssh_text.specs.Text.{lines_of, numbered}
use Rattle.ssh_review.specs.HostLines.{known_key_reported}
use Rattle.ssh_review.specs.HostRecords.{print_of}
use Rattle.ssh_review.specs.Lines.{key_reported}
use Rattle.ssh_review.specs.RowPlaces.{row_place}

-- an entry of authorized_keys: its comment, its key, and whether its rights are limited
abbrev pub entry_key : RowPlace → Facts → KeyRowSeen
entry_key place f = row_of place f.comment f.fingerprint (not (is_unlimited f))

-- an entry of known_hosts has no rights
abbrev pub host_entry_key : RowPlace → HostFacts → KeyRowSeen
host_entry_key place f = row_of place f.comment f.fingerprint false

-- A line with this reading, at this place: an entry has its key, and a line that cannot be read that which OpenSSH looks for on it.
abbrev pub line_key : Asking → RowPlace → List ℕ → AuthLine → List KeyRowSeen
line_key asking place line Blank = []
line_key asking place line Comment = []
line_key asking place line (Entry e) = entry_key place (facts_of asking.zone e) ∷ []
line_key asking place line (Unreadable cause) = held_rows place (key_reported line)

-- the same of known_hosts: a revocation has the key that it revokes
abbrev pub host_line_key : RowPlace → List ℕ → KnownLine → List KeyRowSeen
host_line_key place line known.Blank = []
host_line_key place line known.Comment = []
host_line_key place line (known.Entry e) = host_entry_key place (host_facts_of line e) ∷ []
host_line_key place line (known.Revoked bytes) = row_of place [] (print_of bytes) false ∷ []
host_line_key place line known.RevokedUnreadable = held_rows place (known_key_reported line)
host_line_key place line (known.Unreadable cause) = held_rows place (known_key_reported line)

-- those of lines, each with its number, in the section of the file of this number
abbrev pub keys_of_lines : ℕ → Asking → List (ℕ × List ℕ) → List KeyRowSeen
keys_of_lines file asking lines =
    flat_map (λ (line : ℕ × List ℕ). line_key asking (row_place file line.0) line.1 (auth_line line.1)) lines

-- the same of known_hosts
abbrev pub host_keys_of_lines : ℕ → List (ℕ × List ℕ) → List KeyRowSeen
host_keys_of_lines file lines = flat_map (λ (line : ℕ × List ℕ). host_line_key (row_place file line.0) line.1 (known_line line.1)) lines

-- of a file
abbrev pub file_key_rows : FileKind → ℕ → Asking → List ℕ → List KeyRowSeen
file_key_rows AuthorizedKeys number asking file = keys_of_lines number asking (numbered 1 (lines_of file))
file_key_rows KnownHosts number asking file = host_keys_of_lines number (numbered 1 (lines_of file))
