-- The verdict of a line of a known_hosts file on a host's key.
use Rattle.std.specs.Prelude.{Some, None}
use Rattle.ssh_entries.specs.KnownEntry.{KnownEntry}
use Rattle.ssh_entries.specs.declared.known_line.KnownLine.{KnownLine}
use Rattle.ssh_entries.specs.declared.known_line.KnownLine.TheVariants as known
use Rattle.ssh_offers.specs.HostClaim.{HostClaim}
use Rattle.ssh_rules.specs.declared.reason.Reason.TheVariants as reason
use Rattle.ssh_rules.specs.declared.admission.LineVerdict.{LineVerdict}
use Rattle.ssh_rules.specs.declared.admission.LineVerdict.TheVariants.{Skips}
use Rattle.ssh_rules.specs.Verdict.{verdict_by}
use Rattle.ssh_host_rules.specs.HostAdmission.{host_mismatch}

-- An entry admits the key, or has a reason why not; a line that cannot be read has one too. A revocation has none.
abbrev pub host_verdict : HostClaim → KnownLine → LineVerdict KnownEntry
host_verdict claim known.Blank = Skips None
host_verdict claim known.Comment = Skips None
host_verdict claim (known.Entry e) = verdict_by (host_mismatch e claim) e
host_verdict claim (known.Unreadable why) = Skips (Some (reason.Unreadable why))
host_verdict claim (known.Revoked blob) = Skips None
host_verdict claim known.RevokedUnreadable = Skips None
