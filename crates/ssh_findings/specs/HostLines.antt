-- What the lines of a known_hosts file state about keys, for the findings of later lines (sshd(8), SSH_KNOWN_HOSTS FILE
-- FORMAT).
use Rattle.std.specs.Prelude.{ℕ, Bool, List, Option}
use Rattle.ssh_keys.specs.declared.kind.KeyKind.{KeyKind}

-- What a line states about a key. It trusts the key, which is of this kind, as an authority or not, for the hosts of a
-- list if the names are not hashed. Or it revokes the key, and for ssh also the key of which it has another encoding.
pub data Saying : Type 0 where
  Trusts : (kind : KeyKind) (is_authority : Bool) (list : Option (List ℕ)) → Saying
  Revokes : (spelling : Option (List ℕ)) → Saying

-- a line with this number that states something about the key with this blob
pub record HostLine : Type 0 where
  pub line : ℕ
  pub blob : List ℕ
  pub says : Saying
