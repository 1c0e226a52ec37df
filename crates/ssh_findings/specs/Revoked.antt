-- Which offers an earlier line revokes (this project's rule: the names and hosts of the line do not matter).
use Rattle.std.specs.Prelude.{Bool, ◌&&◌}
use Rattle.ssh_offers.specs.Offer.{Offer}
use Rattle.ssh_host_rules.specs.Revocation.{is_key_or_signer}
use Rattle.ssh_findings.specs.HostLines.{HostLine}
use Rattle.ssh_findings.specs.HostFindingsEarlier.{says_revoked}

-- the line revokes the offered key, or the certificate's signer
abbrev pub revokes : Offer → HostLine → Bool
revokes offer d = says_revoked d.says && is_key_or_signer offer d.blob
