-- The counts of a known_hosts line (this project's rule).
use Rattle.std.specs.Prelude.{List, length}
use Rattle.ssh_entries.specs.declared.known_line.KnownLine.{KnownLine}
use Rattle.ssh_entries.specs.declared.known_line.KnownLine.TheVariants.{Blank, Comment, Entry, Revoked, RevokedUnreadable, Unreadable}
use Rattle.ssh_findings.specs.CodeCounts.{counted}
use Rattle.ssh_findings.specs.HostFindingsFindings.{host_code_of}
use Rattle.ssh_findings.specs.declared.host_finding.HostFinding.{HostFinding}
use Rattle.ssh_review.specs.declared.end.Counts.{Counts}
use Rattle.ssh_review.specs.Counting.{line_alone}

-- a line that cannot be read, with these findings
abbrev pub bare_counts : List HostFinding → Counts
bare_counts found = record { lines = 1; keys = 0; unreadable = 1; findings = length found; by_code = counted host_code_of found }

-- the counts of a line with these findings: an entry counts as a key, a certificate authority too; a revocation counts
-- only as a line, and an unreadable one as unreadable
abbrev pub host_counts_with : KnownLine → List HostFinding → Counts
host_counts_with Blank found = line_alone
host_counts_with Comment found = line_alone
host_counts_with (Entry entry) found = record { lines = 1; keys = 1; unreadable = 0; findings = length found; by_code = counted host_code_of found }
host_counts_with (Revoked bytes) found = record { lines = 1; keys = 0; unreadable = 0; findings = length found; by_code = counted host_code_of found }
host_counts_with RevokedUnreadable found = bare_counts found
host_counts_with (Unreadable cause) found = bare_counts found
