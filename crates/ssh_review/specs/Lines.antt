-- The records of an authorized_keys file's lines, and their counts.
use Rattle.std.specs.Prelude.{◌++◌, ◌∷◌, [], ◌&&◌, ℕ, Bool, List, Option, is_none, option_map}
use Rattle.ssh_entries.specs.declared.auth_line.AuthLine.{AuthLine}
use Rattle.ssh_entries.specs.declared.auth_line.AuthLine.TheVariants.{Blank, Comment, Entry, Unreadable}
use Rattle.ssh_entries.specs.AuthEntry.{AuthEntry}
use Rattle.ssh_entries.specs.AuthGrammar.{auth_line}
use Rattle.ssh_review.specs.declared.end.Counts.{Counts}
use Rattle.ssh_review.specs.declared.records.RecordForm.{RecordForm}
use Rattle.ssh_findings.specs.declared.finding.Finding.{Finding}
use Rattle.ssh_keys.specs.PublicKey.{key_blob}
use Rattle.ssh_findings.specs.Asking.{Asking}
use Rattle.ssh_findings.specs.Earlier.{Held, held_entry, shadow}
use Rattle.ssh_review.specs.Counting.{counts_with, no_counts, plus}
use Rattle.ssh_findings.specs.EntryFindings.{entry_findings, may_let_in, unreadable_findings}
use Rattle.ssh_findings.specs.Facts.{facts_of}
use Rattle.ssh_findings.specs.declared.recovered_key.HeldKey.{HeldKey}
use Rattle.ssh_findings.specs.HeldKey.{held_key, held_of as reported_of}
use Rattle.ssh_review.specs.Forms.{entry_record, unreadable_record}

-- the reported findings of a line after these entries
abbrev pub line_findings : Asking → List Held → AuthLine → List Finding
line_findings asking earlier Blank = []
line_findings asking earlier Comment = []
line_findings asking earlier (Entry entry) = entry_findings asking earlier (key_blob entry.key) (facts_of asking.zone entry)
line_findings asking earlier (Unreadable cause) = unreadable_findings asking cause

-- the number of the first earlier line that lets the key of an entry in
abbrev pub shadow_line : Asking → List Held → AuthEntry → Option ℕ
shadow_line asking earlier entry = option_map (λ d. d.line) (shadow earlier (key_blob entry.key) (facts_of asking.zone entry))

-- The entry may let its key in at the moment asked about: no earlier line decides in its place, it has not expired, and its
-- lists permit somebody.
abbrev pub lets_in : Asking → List Held → AuthEntry → Bool
lets_in asking earlier entry = is_none (shadow_line asking earlier entry) && may_let_in asking (facts_of asking.zone entry)

-- the recovered key of a line that cannot be read (the key that OpenSSH reads there), if there is one
abbrev pub key_reported : List ℕ → Option HeldKey
key_reported line = option_map reported_of (held_key line)

-- The record of a line with this reading (an entry, for example), and its number. Blank lines and comments have none.
abbrev pub line_record : RecordForm → Asking → List ℕ → List Held → ℕ × List ℕ → AuthLine → List ℕ
line_record form asking name earlier (n, line) Blank = []
line_record form asking name earlier (n, line) Comment = []
line_record form asking name earlier (n, line) (Entry entry) =
    entry_record form name n (facts_of asking.zone entry) entry.options (shadow_line asking earlier entry)
    (lets_in asking earlier entry) (line_findings asking earlier (Entry entry))
line_record form asking name earlier (n, line) (Unreadable cause) =
    unreadable_record form name n (key_reported line) (line_findings asking earlier (Unreadable cause))

abbrev pub line_counts : Asking → List Held → AuthLine → Counts
line_counts asking earlier line = counts_with line (line_findings asking earlier line)

-- the facts of the line's entry that later lines need, with its number
abbrev pub held_by_line : Asking → ℕ × AuthLine → List Held
held_by_line asking (n, Blank) = []
held_by_line asking (n, Comment) = []
held_by_line asking (n, Entry entry) = held_entry asking.zone n entry ∷ []
held_by_line asking (n, Unreadable cause) = []

-- the same of lines, each with its number
abbrev pub held_lines : Asking → List (ℕ × List ℕ) → List Held
held_lines asking [] = []
held_lines asking (line ∷ lines) = held_by_line asking (line.0, auth_line line.1) ++ held_lines asking lines

-- the records of lines, each with its number, after the lines of these entries
abbrev pub records_of : RecordForm → Asking → List ℕ → List Held → List (ℕ × List ℕ) → List ℕ
records_of form asking name earlier [] = []
records_of form asking name earlier (line ∷ lines) =
    line_record form asking name earlier line (auth_line line.1)
    ++ records_of form asking name (earlier ++ held_by_line asking (line.0, auth_line line.1)) lines

-- the sums of the counts of lines
abbrev pub counts_of : Asking → List Held → List (ℕ × List ℕ) → Counts
counts_of asking earlier [] = no_counts
counts_of asking earlier (line ∷ lines) =
    plus (line_counts asking earlier (auth_line line.1))
    (counts_of asking (earlier ++ held_by_line asking (line.0, auth_line line.1)) lines)
