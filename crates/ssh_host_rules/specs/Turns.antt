-- The most and the fewest matcher steps that a line of a known_hosts file takes, as `matches_counted` counts them.
use Rattle.std.specs.Prelude.{ℕ, ◌+◌, ◌*◌, List, length}
use Rattle.ssh_entries.specs.KnownEntry.{KnownEntry}
use Rattle.ssh_entries.specs.declared.known_line.KnownLine.{KnownLine}
use Rattle.ssh_entries.specs.declared.known_line.KnownLine.TheVariants as known
use Rattle.ssh_entries.specs.Names.{Names, Patterns, Hashed, names_text}
use Rattle.ssh_offers.specs.HostClaim.{HostClaim}
use Rattle.ssh_offers.specs.Query.{HostCheck}
use Rattle.ssh_rules.specs.declared.admission.LineVerdict.{LineVerdict}
use Rattle.ssh_rules.specs.declared.admission.LineVerdict.TheVariants.{Admits, Skips}
use Rattle.ssh_host_rules.specs.HostAdmission.{looked_up}

-- The most for each byte of a line's names, and for their end: the bytes of the name that the host is looked up by, and
-- its end.
abbrev pub host_width : HostCheck → ℕ
host_width q = length (looked_up q) + 1

-- the fewest for names that match a host: a list takes one for each byte of the name, and a hash none
abbrev pub names_least : Names → List ℕ → ℕ
names_least (Patterns list) name = length name
names_least (Hashed salt hash) name = 0

-- the most for a line and a host's key; only its names are matched
abbrev pub host_most : HostClaim → KnownLine → ℕ
host_most claim known.Blank = 0
host_most claim known.Comment = 0
host_most claim (known.Entry e) = (length (names_text e.names) + 1) * host_width claim.query
host_most claim (known.Unreadable why) = 0
host_most claim (known.Revoked blob) = 0
host_most claim known.RevokedUnreadable = 0

-- the fewest, where the line has this verdict
abbrev pub host_least : HostClaim → LineVerdict KnownEntry → ℕ
host_least claim (Admits e) = names_least e.names (looked_up claim.query)
host_least claim (Skips why) = 0
