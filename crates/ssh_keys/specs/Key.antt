-- The key of a blob that is stored.
use Rattle.std.specs.Prelude.{[], Result, Ok, Err}
use Rattle.ssh_keys.specs.declared.key.KeyError.{KeyError}
use Rattle.ssh_keys.specs.PublicKey.{PublicKey, ed25519}

-- the key that was read; bytes that are not a key's blob are never stored, so the second case does not occur
abbrev pub key_or_none : Result PublicKey KeyError → PublicKey
key_or_none (Ok key) = key
key_or_none (Err e) = ed25519 []
