-- What is printed of each finding of a known_hosts line, and its code (this project's rule).
use Rattle.ssh_findings.specs.FindingRows.{FindingRow, Texts, row_with}
use Rattle.ssh_findings.specs.Ground.{ground_word}
use Rattle.ssh_findings.specs.declared.code.Code.{Code}
use Rattle.ssh_findings.specs.declared.finding.TheConstants as shared
use Rattle.ssh_findings.specs.declared.host_finding.HostFinding.{HostFinding}
use Rattle.ssh_findings.specs.declared.host_finding.HostFinding.TheVariants as finding
use Rattle.ssh_findings.specs.declared.host_finding.TheConstants as table
use Rattle.ssh_findings.specs.declared.openssh.Ground.{Ground}
use Rattle.ssh_findings.specs.declared.openssh.Ground.TheVariants as grounds
use Rattle.ssh_findings.specs.declared.row.Value.TheVariants.{Nothing, Number, Cause}

-- why ssh may pass over a line
abbrev pub host_refusal : Ground → Texts
host_refusal grounds.Nul = table.NUL_NAMES
host_refusal grounds.LongItem = table.LONG_NAME
host_refusal grounds.Rsa = table.RSA_SIZE
host_refusal grounds.PermitOpen = table.PASSED_OVER
host_refusal grounds.PermitListen = table.PASSED_OVER
host_refusal grounds.Environment = table.PASSED_OVER
host_refusal grounds.Tunnel = table.PASSED_OVER

abbrev pub host_refusal_row : Ground → FindingRow
host_refusal_row g = record (row_with (host_refusal g) Nothing) { detail = ground_word g }

-- its row
abbrev pub host_row : HostFinding → FindingRow
host_row (finding.Unreadable why) = row_with shared.UNREADABLE (Cause why)
host_row (finding.ShortKey bits) = row_with shared.SHORT_KEY (Number bits)
host_row finding.MarkerTab = row_with table.MARKER_TAB Nothing
host_row finding.RevocationTab = row_with table.REVOCATION_TAB Nothing
host_row finding.RevocationType = row_with table.REVOCATION_TYPE Nothing
host_row finding.UnreadableRevocation = row_with table.UNREADABLE_REVOCATION Nothing
host_row (finding.OtherKey line) = row_with table.OTHER_KEY (Number line)
host_row (finding.TrustedAndRevoked line) = row_with table.TRUSTED_AND_REVOKED (Number line)
host_row (finding.RevokedSpelling line) = row_with table.REVOKED_SPELLING (Number line)
host_row (finding.TrustedSpelling line) = row_with table.TRUSTED_SPELLING (Number line)
host_row finding.PatternHosts = row_with table.PATTERN_HOSTS Nothing
host_row finding.EveryHost = row_with table.EVERY_HOST Nothing
host_row finding.NamesInClear = row_with table.NAMES_IN_CLEAR Nothing
host_row (finding.SameHostKey line) = row_with table.SAME_HOST_KEY (Number line)
host_row (finding.MayRefuse g) = host_refusal_row g

-- the code under which it is reported
abbrev pub host_code_of : HostFinding → Code
host_code_of f = (host_row f).code
