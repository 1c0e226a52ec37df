-- What each line of a trust file tells in a review (this project's rule): its record and its counts, after the lines before it.
use Rattle.std.specs.Prelude.{◌++◌, ◌∷◌, [], ℕ, false, List}
use Rattle.ssh_entries.specs.AuthGrammar.{auth_line}
use Rattle.ssh_entries.specs.KnownGrammar.{known_line}
use Rattle.ssh_findings.specs.Asking.{Asking}
use Rattle.ssh_findings.specs.Earlier.{Held}
use Rattle.ssh_findings.specs.HostLines.{HostLine}
use Rattle.ssh_review.specs.declared.end.Counts.{Counts}
use Rattle.ssh_review.specs.declared.records.RecordForm.{RecordForm}
use Rattle.ssh_review.specs.declared.key_review.KeyCounts.{KeyCounts}
use Rattle.ssh_review.specs.HostKeyRecords.{host_key_counts, host_key_record}
use Rattle.ssh_review.specs.HostLines.{host_kept_of, host_line_counts, host_line_record}
use Rattle.ssh_review.specs.KeyRecords.{key_counts, key_record, no_key_counts, plus_key}
use Rattle.ssh_review.specs.Lines.{held_by_line, line_counts, line_record}

-- the counts of a review of all keys, which seeks none
abbrev pub of_all : Counts → KeyCounts
of_all counts = record { counts = counts; stands = false }

-- the record of a line, which is empty where it has none, and its counts
pub record LineReport : Type 0 where
  pub text : List ℕ
  pub counts : KeyCounts

abbrev pub line_report : List ℕ → KeyCounts → LineReport
line_report text counts = record { text = text; counts = counts }

-- the sums of the counts of lines
abbrev pub report_counts : List LineReport → KeyCounts
report_counts [] = no_key_counts
report_counts (line_reports ∷ others) = plus_key line_reports.counts (report_counts others)

-- the lines of an authorized_keys file, each with its number, after the lines of these entries
abbrev pub line_reports_of : RecordForm → Asking → List ℕ → List Held → List (ℕ × List ℕ) → List LineReport
line_reports_of form asking name earlier [] = []
line_reports_of form asking name earlier (line ∷ lines) =
    line_report (line_record form asking name earlier line (auth_line line.1)) (of_all (line_counts asking earlier (auth_line line.1)))
    ∷ line_reports_of form asking name (earlier ++ held_by_line asking (line.0, auth_line line.1)) lines

-- those of a known_hosts file, after these lines
abbrev pub host_line_reports_of : RecordForm → Asking → List ℕ → List HostLine → List (ℕ × List ℕ) → List LineReport
host_line_reports_of form asking name earlier [] = []
host_line_reports_of form asking name earlier (line ∷ lines) =
    line_report (host_line_record form asking name earlier line.0 line.1 (known_line line.1)) (of_all (host_line_counts asking earlier line.1 (known_line line.1)))
    ∷ host_line_reports_of form asking name (earlier ++ host_kept_of line.0 line.1 (known_line line.1)) lines

-- the same in a review for one key
abbrev pub key_line_reports_of : List ℕ → RecordForm → Asking → List ℕ → List Held → List (ℕ × List ℕ) → List LineReport
key_line_reports_of fingerprint form asking name earlier [] = []
key_line_reports_of fingerprint form asking name earlier (line ∷ lines) =
    line_report (key_record fingerprint form asking name earlier line (auth_line line.1)) (key_counts fingerprint asking earlier line.1 (auth_line line.1))
    ∷ key_line_reports_of fingerprint form asking name (earlier ++ held_by_line asking (line.0, auth_line line.1)) lines

abbrev pub host_key_line_reports_of : List ℕ → RecordForm → Asking → List ℕ → List HostLine → List (ℕ × List ℕ) → List LineReport
host_key_line_reports_of fingerprint form asking name earlier [] = []
host_key_line_reports_of fingerprint form asking name earlier (line ∷ lines) =
    line_report (host_key_record fingerprint form asking name earlier line.0 line.1 (known_line line.1)) (host_key_counts fingerprint asking earlier line.1 (known_line line.1))
    ∷ host_key_line_reports_of fingerprint form asking name (earlier ++ host_kept_of line.0 line.1 (known_line line.1)) lines
