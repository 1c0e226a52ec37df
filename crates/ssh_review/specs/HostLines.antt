-- The records of a known_hosts file's lines, and their counts.
use Rattle.std.specs.Prelude.{◌++◌, ◌∷◌, [], ℕ, List, Option, option_map}
use Rattle.ssh_keys.specs.PublicKey.{key_blob}
use Rattle.ssh_entries.specs.declared.known_line.KnownLine.{KnownLine}
use Rattle.ssh_entries.specs.declared.known_line.KnownLine.TheVariants.{Blank, Comment, Entry, Revoked, RevokedUnreadable, Unreadable}
use Rattle.ssh_entries.specs.KnownGrammar.{known_line}
use Rattle.ssh_findings.specs.Asking.{Asking}
use Rattle.ssh_findings.specs.declared.recovered_key.HeldKey.{HeldKey}
use Rattle.ssh_findings.specs.HeldKey.{held_of as reported_of, known_held_key}
use Rattle.ssh_findings.specs.declared.host_finding.HostFinding.{HostFinding}
use Rattle.ssh_findings.specs.HostFindingsEarlier.{revoking, trusting}
use Rattle.ssh_findings.specs.HostFacts.{host_facts_of}
use Rattle.ssh_findings.specs.RevocationFacts.{revocation_facts_of}
use Rattle.ssh_findings.specs.HostFindings.{unreadable_revocation_findings, host_entry_findings, revocation_findings, unreadable_host_findings}
use Rattle.ssh_findings.specs.HostLines.{HostLine}
use Rattle.ssh_review.specs.declared.end.Counts.{Counts}
use Rattle.ssh_review.specs.declared.records.RecordForm.{RecordForm}
use Rattle.ssh_review.specs.Counting.{no_counts, plus}
use Rattle.ssh_review.specs.HostCounting.{host_counts_with}
use Rattle.ssh_review.specs.HostForms.{unreadable_revocation_record, host_entry_record, revoked_record, host_unreadable_record}

-- the reported findings of a line after these lines
abbrev pub host_line_findings : Asking → List HostLine → List ℕ → KnownLine → List HostFinding
host_line_findings asking earlier line Blank = []
host_line_findings asking earlier line Comment = []
host_line_findings asking earlier line (Entry entry) = host_entry_findings asking earlier (key_blob entry.key) (host_facts_of line entry)
host_line_findings asking earlier line (Revoked bytes) =
    revocation_findings asking earlier bytes (revocation_facts_of line bytes)
host_line_findings asking earlier line RevokedUnreadable = unreadable_revocation_findings asking line
host_line_findings asking earlier line (Unreadable cause) = unreadable_host_findings asking cause

-- the recovered key of a line that cannot be read: the key that OpenSSH looks for there
abbrev pub known_key_reported : List ℕ → Option HeldKey
known_key_reported line = option_map reported_of (known_held_key line)

-- The record of a line with this reading (an entry, for example), and its number. Blank lines and comments have none.
abbrev pub host_line_record : RecordForm → Asking → List ℕ → List HostLine → ℕ → List ℕ → KnownLine → List ℕ
host_line_record form asking name earlier n line Blank = []
host_line_record form asking name earlier n line Comment = []
host_line_record form asking name earlier n line (Entry entry) =
    host_entry_record form name n (host_facts_of line entry) (host_line_findings asking earlier line (Entry entry))
host_line_record form asking name earlier n line (Revoked bytes) =
    revoked_record form name n bytes (revocation_facts_of line bytes) (host_line_findings asking earlier line (Revoked bytes))
host_line_record form asking name earlier n line RevokedUnreadable =
    unreadable_revocation_record form name n (known_key_reported line) (host_line_findings asking earlier line RevokedUnreadable)
host_line_record form asking name earlier n line (Unreadable cause) =
    host_unreadable_record form name n (known_key_reported line) (host_line_findings asking earlier line (Unreadable cause))

abbrev pub host_line_counts : Asking → List HostLine → List ℕ → KnownLine → Counts
host_line_counts asking earlier line state = host_counts_with state (host_line_findings asking earlier line state)

-- the facts of a line that later lines need
abbrev pub host_kept_of : ℕ → List ℕ → KnownLine → List HostLine
host_kept_of n line Blank = []
host_kept_of n line Comment = []
host_kept_of n line (Entry entry) = trusting n (key_blob entry.key) (host_facts_of line entry) ∷ []
host_kept_of n line (Revoked bytes) = revoking n bytes (revocation_facts_of line bytes) ∷ []
host_kept_of n line RevokedUnreadable = []
host_kept_of n line (Unreadable cause) = []

-- the facts of lines, each with its number, that later lines need
abbrev pub host_kept_lines : List (ℕ × List ℕ) → List HostLine
host_kept_lines [] = []
host_kept_lines (line ∷ lines) = host_kept_of line.0 line.1 (known_line line.1) ++ host_kept_lines lines

-- the records of lines, each with its number, after these lines
abbrev pub host_records_of : RecordForm → Asking → List ℕ → List HostLine → List (ℕ × List ℕ) → List ℕ
host_records_of form asking name earlier [] = []
host_records_of form asking name earlier (line ∷ lines) =
    host_line_record form asking name earlier line.0 line.1 (known_line line.1)
    ++ host_records_of form asking name (earlier ++ host_kept_of line.0 line.1 (known_line line.1)) lines

-- the sums of the counts of lines
abbrev pub host_counts_of : Asking → List HostLine → List (ℕ × List ℕ) → Counts
host_counts_of asking earlier [] = no_counts
host_counts_of asking earlier (line ∷ lines) =
    plus (host_line_counts asking earlier line.1 (known_line line.1))
    (host_counts_of asking (earlier ++ host_kept_of line.0 line.1 (known_line line.1)) lines)
