-- An entry of a known_hosts file (sshd(8), SSH_KNOWN_HOSTS FILE FORMAT).
use Rattle.std.specs.Prelude.{ℕ, List}
use Rattle.ssh_keys.specs.PublicKey.{PublicKey}
use Rattle.ssh_entries.specs.Names.{Names}
use Rattle.ssh_entries.specs.declared.known_view.Marker.{Marker}

-- a key that hosts may have, or a certificate authority's key that may sign their certificates
pub record KnownEntry : Type 0 where
  pub marker : Marker
  pub names : Names
  pub key : PublicKey
  pub comment : List ℕ
