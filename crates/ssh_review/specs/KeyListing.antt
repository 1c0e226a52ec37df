-- Where a key stands in a trust file, and that the review for it prints the records of exactly these lines (this
-- project's rule).
use Rattle.std.specs.Prelude.{◌≡◌, ◌++◌, ◌∷◌, [], ℕ, true, false, List}
use Rattle.ssh_entries.specs.AuthGrammar.{auth_line}
use Rattle.ssh_entries.specs.KnownGrammar.{known_line}
use Rattle.ssh_trust.specs.FileLines.{StandsAt}
use Rattle.ssh_findings.specs.Asking.{Asking}
use Rattle.ssh_findings.specs.Earlier.{Held}
use Rattle.ssh_findings.specs.HostLines.{HostLine}
use Rattle.ssh_review.specs.declared.records.RecordForm.{RecordForm}
use Rattle.ssh_review.specs.HostKeyRecords.{host_holds_key}
use Rattle.ssh_review.specs.HostLines.{host_kept_of, host_line_record}
use Rattle.ssh_review.specs.KeyRecords.{holds_key}
use Rattle.ssh_review.specs.Lines.{held_by_line, line_record}

-- ---- lines

-- a line of an authorized_keys file holds the key with this fingerprint
abbrev pub Stands : List ℕ → List ℕ → Type 0
Stands fingerprint file = (n : ℕ) × (line : List ℕ) × StandsAt file n line × (holds_key fingerprint line (auth_line line) ≡ true)

-- no line of it does
abbrev pub StandsNowhere : List ℕ → List ℕ → Type 0
StandsNowhere fingerprint file = (n : ℕ) (line : List ℕ) → StandsAt file n line → holds_key fingerprint line (auth_line line) ≡ false

-- the same of a known_hosts file
abbrev pub HostStands : List ℕ → List ℕ → Type 0
HostStands fingerprint file = (n : ℕ) × (line : List ℕ) × StandsAt file n line × (host_holds_key fingerprint line (known_line line) ≡ true)

abbrev pub HostStandsNowhere : List ℕ → List ℕ → Type 0
HostStandsNowhere fingerprint file = (n : ℕ) (line : List ℕ) → StandsAt file n line → host_holds_key fingerprint line (known_line line) ≡ false

-- ---- records

-- each line with its number, and what the whole review prints of it, after the lines of these entries
abbrev pub records_apart : RecordForm → Asking → List ℕ → List Held → List (ℕ × List ℕ) → List ((ℕ × List ℕ) × List ℕ)
records_apart form asking name earlier [] = []
records_apart form asking name earlier (line ∷ lines) =
    (line, line_record form asking name earlier line (auth_line line.1))
    ∷ records_apart form asking name (earlier ++ held_by_line asking (line.0, auth_line line.1)) lines

-- the same of a known_hosts file, after these lines
abbrev pub host_records_apart : RecordForm → Asking → List ℕ → List HostLine → List (ℕ × List ℕ) → List ((ℕ × List ℕ) × List ℕ)
host_records_apart form asking name earlier [] = []
host_records_apart form asking name earlier (line ∷ lines) =
    (line, host_line_record form asking name earlier line.0 line.1 (known_line line.1))
    ∷ host_records_apart form asking name (earlier ++ host_kept_of line.0 line.1 (known_line line.1)) lines
