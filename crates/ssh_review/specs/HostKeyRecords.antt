-- The records of the known_hosts lines that hold one key, and their counts (this project's rule).
use Rattle.std.specs.Prelude.{◌++◌, ◌∷◌, [], ℕ, Bool, false, if◌then◌else◌, List}
use Rattle.std.specs.Str.{bytes_eq}
use Rattle.ssh_entries.specs.declared.known_line.KnownLine.{KnownLine}
use Rattle.ssh_entries.specs.declared.known_line.KnownLine.TheVariants.{Blank, Comment, Entry, Revoked, RevokedUnreadable, Unreadable}
use Rattle.ssh_entries.specs.KnownGrammar.{known_line}
use Rattle.ssh_findings.specs.Asking.{Asking}
use Rattle.ssh_findings.specs.HostLines.{HostLine}
use Rattle.ssh_review.specs.declared.records.RecordForm.{RecordForm}
use Rattle.ssh_review.specs.declared.key_review.KeyCounts.{KeyCounts}
use Rattle.ssh_review.specs.Counting.{line_alone}
use Rattle.ssh_review.specs.HostLines.{host_kept_of, host_line_counts, host_line_record, known_key_reported}
use Rattle.ssh_review.specs.HostRecords.{print_of}
use Rattle.ssh_review.specs.KeyRecords.{lists_key, no_key_counts, plus_key, recovers_key}

-- the key of a line with this reading, the bytes that it revokes, or the key that an unreadable line holds, has this
-- fingerprint
abbrev pub host_holds_key : List ℕ → List ℕ → KnownLine → Bool
host_holds_key fingerprint line Blank = false
host_holds_key fingerprint line Comment = false
host_holds_key fingerprint line (Entry entry) = lists_key fingerprint entry.key
host_holds_key fingerprint line (Revoked bytes) = bytes_eq (print_of bytes) fingerprint
host_holds_key fingerprint line RevokedUnreadable = recovers_key fingerprint (known_key_reported line)
host_holds_key fingerprint line (Unreadable cause) = recovers_key fingerprint (known_key_reported line)

-- the record of a line that holds the key, as the whole review prints it; no other line has one
abbrev pub host_key_record : List ℕ → RecordForm → Asking → List ℕ → List HostLine → ℕ → List ℕ → KnownLine → List ℕ
host_key_record fingerprint form asking name earlier n line state =
    if host_holds_key fingerprint line state then host_line_record form asking name earlier n line state else []

-- the records of the lines that hold the key, after these lines
abbrev pub host_key_records_of : List ℕ → RecordForm → Asking → List ℕ → List HostLine → List (ℕ × List ℕ) → List ℕ
host_key_records_of fingerprint form asking name earlier [] = []
host_key_records_of fingerprint form asking name earlier (line ∷ lines) =
    host_key_record fingerprint form asking name earlier line.0 line.1 (known_line line.1)
    ++ host_key_records_of fingerprint form asking name (earlier ++ host_kept_of line.0 line.1 (known_line line.1)) lines

-- the counts of a line, and whether it holds the key: one that does not counts as a line alone
abbrev pub host_key_counts : List ℕ → Asking → List HostLine → List ℕ → KnownLine → KeyCounts
host_key_counts fingerprint asking earlier line state = record {
  counts = if host_holds_key fingerprint line state then host_line_counts asking earlier line state else line_alone;
  stands = host_holds_key fingerprint line state;
}

-- the sums of the counts of lines, and whether one of them holds the key
abbrev pub host_key_counts_of : List ℕ → Asking → List HostLine → List (ℕ × List ℕ) → KeyCounts
host_key_counts_of fingerprint asking earlier [] = no_key_counts
host_key_counts_of fingerprint asking earlier (line ∷ lines) =
    plus_key (host_key_counts fingerprint asking earlier line.1 (known_line line.1))
    (host_key_counts_of fingerprint asking (earlier ++ host_kept_of line.0 line.1 (known_line line.1)) lines)
