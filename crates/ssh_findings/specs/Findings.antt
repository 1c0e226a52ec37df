-- What is printed of each finding of an authorized_keys line, and its code (this project's rule).
use Rattle.ssh_findings.specs.FindingRows.{FindingRow, row_with}
use Rattle.ssh_findings.specs.Ground.{ground_word}
use Rattle.ssh_findings.specs.declared.code.Code.{Code}
use Rattle.ssh_findings.specs.declared.finding.Finding.{Finding}
use Rattle.ssh_findings.specs.declared.finding.Finding.TheVariants as finding
use Rattle.ssh_findings.specs.declared.finding.TheConstants as table
use Rattle.ssh_findings.specs.declared.row.Value.TheVariants.{Nothing, Number, Cause}

-- its row
abbrev pub auth_row : Finding → FindingRow
auth_row (finding.Unreadable why) = row_with table.UNREADABLE (Cause why)
auth_row (finding.SameKey line) = row_with table.SAME_KEY (Number line)
auth_row (finding.NeverDecides line) = row_with table.NEVER_DECIDES (Number line)
auth_row (finding.GivesMore line) = row_with table.GIVES_MORE (Number line)
auth_row (finding.ShortKey bits) = row_with table.SHORT_KEY (Number bits)
auth_row finding.Expired = row_with table.EXPIRED Nothing
auth_row finding.BadSources = row_with table.BAD_SOURCES Nothing
auth_row finding.SourcesHere = row_with table.SOURCES_HERE Nothing
auth_row finding.NoPrincipal = row_with table.NO_PRINCIPAL Nothing
auth_row finding.PlainPrincipals = row_with table.PLAIN_PRINCIPALS Nothing
auth_row finding.EmptyPrincipal = row_with table.EMPTY_PRINCIPAL Nothing
auth_row finding.VerifyIgnored = row_with table.VERIFY_IGNORED Nothing
auth_row finding.LocalTime = row_with table.LOCAL_TIME Nothing
auth_row finding.ShortAddress = row_with table.SHORT_ADDRESS Nothing
auth_row finding.ForcedButForwards = row_with table.FORCED_BUT_FORWARDS Nothing
auth_row finding.AnyAddress = row_with table.ANY_ADDRESS Nothing
auth_row finding.AnyCommand = row_with table.ANY_COMMAND Nothing
auth_row finding.NoExpiry = row_with table.NO_EXPIRY Nothing
auth_row finding.AnyPrincipal = row_with table.ANY_PRINCIPAL Nothing
auth_row finding.NoComment = row_with table.NO_COMMENT Nothing
auth_row (finding.MayRefuse g) = record (row_with table.MAY_REFUSE Nothing) { detail = ground_word g }

-- the code under which it is reported
abbrev pub code_of : Finding → Code
code_of f = (auth_row f).code
