-- An entry of an authorized_keys file (sshd(8), AUTHORIZED_KEYS FILE FORMAT).
use Rattle.std.specs.Prelude.{ℕ, List}
use Rattle.ssh_keys.specs.PublicKey.{PublicKey}
use Rattle.ssh_options.specs.AuthOption.{AuthOption}

-- a key that may log in, with its options and comment
pub record AuthEntry : Type 0 where
  pub options : List AuthOption
  pub key : PublicKey
  pub comment : List ℕ
