-- The counts of the lines of an authorized_keys file (this project's rule).
use Rattle.std.specs.Prelude.{◌+◌, List, length}
use Rattle.ssh_entries.specs.declared.auth_line.AuthLine.{AuthLine}
use Rattle.ssh_entries.specs.declared.auth_line.AuthLine.TheVariants.{Blank, Comment, Entry, Unreadable}
use Rattle.ssh_findings.specs.CodeCounts.{counted, no_codes, plus_codes, plus_codes_within, sum_within}
use Rattle.ssh_findings.specs.Findings.{code_of}
use Rattle.ssh_findings.specs.declared.finding.Finding.{Finding}
use Rattle.ssh_review.specs.declared.end.Counts.{Counts}

abbrev pub no_counts : Counts
no_counts = record { lines = 0; keys = 0; unreadable = 0; findings = 0; by_code = no_codes }

abbrev pub plus : Counts → Counts → Counts
plus a b = record {
  lines = a.lines + b.lines;
  keys = a.keys + b.keys;
  unreadable = a.unreadable + b.unreadable;
  findings = a.findings + b.findings;
  by_code = plus_codes a.by_code b.by_code;
}

-- the same, where each sum stops at 2^64 - 1
abbrev pub plus_within : Counts → Counts → Counts
plus_within a b = record {
  lines = sum_within a.lines b.lines;
  keys = sum_within a.keys b.keys;
  unreadable = sum_within a.unreadable b.unreadable;
  findings = sum_within a.findings b.findings;
  by_code = plus_codes_within a.by_code b.by_code;
}

-- a line that is no key, can be read, and has no findings
abbrev pub line_alone : Counts
line_alone = record { lines = 1; keys = 0; unreadable = 0; findings = 0; by_code = no_codes }

-- the counts of a line with these findings: an entry counts as a key, a certificate authority too
abbrev pub counts_with : AuthLine → List Finding → Counts
counts_with Blank found = line_alone
counts_with Comment found = line_alone
counts_with (Entry entry) found = record { lines = 1; keys = 1; unreadable = 0; findings = length found; by_code = counted code_of found }
counts_with (Unreadable cause) found = record { lines = 1; keys = 0; unreadable = 1; findings = length found; by_code = counted code_of found }
