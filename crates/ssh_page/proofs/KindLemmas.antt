-- A finding of a line has a code that files of its kind may have.
use Rattle.std.proofs.Common.{◌≡◌, true, refl}
use Rattle.ssh_findings.specs.Findings.{auth_row}
use Rattle.ssh_findings.specs.HostFindingsFindings.{host_row}
use Rattle.ssh_findings.specs.declared.finding.Finding.{Finding}
use Rattle.ssh_findings.specs.declared.finding.Finding.TheVariants as finding
use Rattle.ssh_findings.specs.declared.host_finding.HostFinding.{HostFinding}
use Rattle.ssh_findings.specs.declared.host_finding.HostFinding.TheVariants as host
use Rattle.ssh_findings.specs.declared.openssh.Ground.TheVariants as grounds
use Rattle.ssh_page.specs.declared.file.FileKind.TheVariants.{AuthorizedKeys, KnownHosts}
use Rattle.ssh_page.specs.Questions.{is_of}

pub keys_of_kind : (f : Finding) → is_of AuthorizedKeys (auth_row f).code ≡ true
keys_of_kind (finding.Unreadable why) = refl
keys_of_kind (finding.SameKey line) = refl
keys_of_kind (finding.NeverDecides line) = refl
keys_of_kind (finding.GivesMore line) = refl
keys_of_kind (finding.ShortKey bits) = refl
keys_of_kind finding.Expired = refl
keys_of_kind finding.BadSources = refl
keys_of_kind finding.SourcesHere = refl
keys_of_kind finding.NoPrincipal = refl
keys_of_kind finding.PlainPrincipals = refl
keys_of_kind finding.EmptyPrincipal = refl
keys_of_kind finding.VerifyIgnored = refl
keys_of_kind finding.LocalTime = refl
keys_of_kind finding.ShortAddress = refl
keys_of_kind finding.ForcedButForwards = refl
keys_of_kind finding.AnyAddress = refl
keys_of_kind finding.AnyCommand = refl
keys_of_kind finding.NoExpiry = refl
keys_of_kind finding.AnyPrincipal = refl
keys_of_kind finding.NoComment = refl
keys_of_kind (finding.MayRefuse g) = refl

pub hosts_of_kind : (f : HostFinding) → is_of KnownHosts (host_row f).code ≡ true
hosts_of_kind (host.Unreadable why) = refl
hosts_of_kind (host.ShortKey bits) = refl
hosts_of_kind host.MarkerTab = refl
hosts_of_kind host.RevocationTab = refl
hosts_of_kind host.RevocationType = refl
hosts_of_kind host.UnreadableRevocation = refl
hosts_of_kind (host.OtherKey line) = refl
hosts_of_kind (host.TrustedAndRevoked line) = refl
hosts_of_kind (host.RevokedSpelling line) = refl
hosts_of_kind (host.TrustedSpelling line) = refl
hosts_of_kind host.PatternHosts = refl
hosts_of_kind host.EveryHost = refl
hosts_of_kind host.NamesInClear = refl
hosts_of_kind (host.SameHostKey line) = refl
hosts_of_kind (host.MayRefuse grounds.Nul) = refl
hosts_of_kind (host.MayRefuse grounds.LongItem) = refl
hosts_of_kind (host.MayRefuse grounds.Rsa) = refl
hosts_of_kind (host.MayRefuse grounds.PermitOpen) = refl
hosts_of_kind (host.MayRefuse grounds.PermitListen) = refl
hosts_of_kind (host.MayRefuse grounds.Environment) = refl
hosts_of_kind (host.MayRefuse grounds.Tunnel) = refl
