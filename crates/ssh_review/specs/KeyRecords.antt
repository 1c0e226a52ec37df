-- The records of the authorized_keys lines that hold one key, and their counts (this project's rule).
use Rattle.std.specs.Prelude.{◌++◌, ◌∷◌, [], ℕ, Bool, false, ◌||◌, if◌then◌else◌, List, Option, Some, None}
use Rattle.std.specs.Str.{bytes_eq}
use Rattle.ssh_keys.specs.Fingerprint.{fingerprint_of}
use Rattle.ssh_keys.specs.PublicKey.{PublicKey}
use Rattle.ssh_entries.specs.declared.auth_line.AuthLine.{AuthLine}
use Rattle.ssh_entries.specs.declared.auth_line.AuthLine.TheVariants.{Blank, Comment, Entry, Unreadable}
use Rattle.ssh_entries.specs.AuthGrammar.{auth_line}
use Rattle.ssh_findings.specs.Asking.{Asking}
use Rattle.ssh_findings.specs.Earlier.{Held}
use Rattle.ssh_findings.specs.declared.recovered_key.HeldKey.{HeldKey}
use Rattle.ssh_findings.specs.KeyRead.{key_read}
use Rattle.ssh_review.specs.declared.records.RecordForm.{RecordForm}
use Rattle.ssh_review.specs.declared.key_review.KeyCounts.{KeyCounts}
use Rattle.ssh_review.specs.Counting.{line_alone, no_counts, plus, plus_within}
use Rattle.ssh_review.specs.Lines.{held_by_line, key_reported, line_counts, line_record}

-- ---- the key of a line

-- the fingerprint that the record of a line with this key lists is this one: that of the key which OpenSSH reads
abbrev pub lists_key : List ℕ → PublicKey → Bool
lists_key fingerprint key = bytes_eq (fingerprint_of (key_read key)) fingerprint

-- the recovered key of a line that cannot be read, if there is one, has this fingerprint
abbrev pub recovers_key : List ℕ → Option HeldKey → Bool
recovers_key fingerprint None = false
recovers_key fingerprint (Some held) = bytes_eq held.fingerprint fingerprint

-- the key of a line with this reading, or the key that an unreadable line holds, has this fingerprint
abbrev pub holds_key : List ℕ → List ℕ → AuthLine → Bool
holds_key fingerprint line Blank = false
holds_key fingerprint line Comment = false
holds_key fingerprint line (Entry entry) = lists_key fingerprint entry.key
holds_key fingerprint line (Unreadable cause) = recovers_key fingerprint (key_reported line)

-- ---- the records

-- the record of a line that holds the key, as the whole review prints it; no other line has one
abbrev pub key_record : List ℕ → RecordForm → Asking → List ℕ → List Held → ℕ × List ℕ → AuthLine → List ℕ
key_record fingerprint form asking name earlier line state =
    if holds_key fingerprint line.1 state then line_record form asking name earlier line state else []

-- the records of the lines that hold the key, after the lines of these entries
abbrev pub key_records_of : List ℕ → RecordForm → Asking → List ℕ → List Held → List (ℕ × List ℕ) → List ℕ
key_records_of fingerprint form asking name earlier [] = []
key_records_of fingerprint form asking name earlier (line ∷ lines) =
    key_record fingerprint form asking name earlier line (auth_line line.1)
    ++ key_records_of fingerprint form asking name (earlier ++ held_by_line asking (line.0, auth_line line.1)) lines

-- ---- the counts

-- the counts of a line, and whether it holds the key: one that does not counts as a line alone
abbrev pub key_counts : List ℕ → Asking → List Held → List ℕ → AuthLine → KeyCounts
key_counts fingerprint asking earlier line state = record {
  counts = if holds_key fingerprint line state then line_counts asking earlier state else line_alone;
  stands = holds_key fingerprint line state;
}

abbrev pub no_key_counts : KeyCounts
no_key_counts = record { counts = no_counts; stands = false }

-- the sums of both, and whether the key stands in either part
abbrev pub plus_key : KeyCounts → KeyCounts → KeyCounts
plus_key a b = record { counts = plus a.counts b.counts; stands = a.stands || b.stands }

-- the same, where each sum stops at 2^64 - 1
abbrev pub plus_key_within : KeyCounts → KeyCounts → KeyCounts
plus_key_within a b = record { counts = plus_within a.counts b.counts; stands = a.stands || b.stands }

-- the sums of the counts of lines, and whether one of them holds the key
abbrev pub key_counts_of : List ℕ → Asking → List Held → List (ℕ × List ℕ) → KeyCounts
key_counts_of fingerprint asking earlier [] = no_key_counts
key_counts_of fingerprint asking earlier (line ∷ lines) =
    plus_key (key_counts fingerprint asking earlier line.1 (auth_line line.1))
    (key_counts_of fingerprint asking (earlier ++ held_by_line asking (line.0, auth_line line.1)) lines)
