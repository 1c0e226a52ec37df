-- Reading the body of a file signature field by field, with the first error.
use Rattle.std.specs.Prelude.{ℕ, ◌+◌, List, length, codes, Result, Ok, Err, nat_lt, ◌==◌, if◌then◌else◌}
use Rattle.std.specs.Int.{w32}
use Rattle.std.specs.Str.{bytes_eq}
use Rattle.ssh_wire.specs.Position.{Position, start}
use Rattle.ssh_wire.specs.Reading.{◌>>=◌, number_at, string_at}
use Rattle.ssh_keys.specs.PublicKey.{longest}
use Rattle.ssh_keys.specs.Signature.{Signature, signature_in}
use Rattle.ssh_bodies.specs.declared.error.BodyError.{BodyError}
use Rattle.ssh_bodies.specs.declared.error.BodyError.TheVariants as errors
use Rattle.ssh_bodies.specs.declared.sshsig.HashName.{HashName}
use Rattle.ssh_bodies.specs.declared.sshsig.HashName.TheVariants.{Sha256, Sha512}
use Rattle.ssh_bodies.specs.BodyReading.{ReadBody, as_body_error, of_inner, body_wants, magic_at, key_at, last_at}
use Rattle.ssh_bodies.specs.Sshsig.{Sshsig, sshsig_magic}

-- the hash with this name
abbrev pub hash_from : List ℕ → Result HashName BodyError
hash_from name = if bytes_eq name (codes "sha256") then Ok Sha256 else if bytes_eq name (codes "sha512") then Ok Sha512 else Err errors.Hash

-- a signature, whose places count in the whole body
unfoldable pub sshsig_signature_at : Position → ReadBody Signature
sshsig_signature_at at = do
  blob ← as_body_error (string_at at)
  signature ← of_inner (at.place + 4) (signature_in blob.0)
  Ok (signature, blob.1)

-- the file signature of a body that is within the limit
unfoldable pub sshsig_at : Position → Result Sshsig BodyError
sshsig_at at = do
  magic ← magic_at sshsig_magic at
  version ← as_body_error (number_at w32 magic.1)
  _ ← body_wants (version.0 == 1) errors.Version
  key ← key_at version.1
  namespace ← as_body_error (string_at key.1)
  _ ← body_wants (nat_lt 0 (length namespace.0)) errors.EmptyNamespace
  reserved ← as_body_error (string_at namespace.1)
  name ← as_body_error (string_at reserved.1)
  hash ← hash_from name.0
  signature ← sshsig_signature_at name.1
  _ ← last_at signature.1
  Ok (record { key = key.0; namespace = namespace.0; reserved = reserved.0; hash = hash; signature = signature.0 })

-- the file signature of a body, or the first error
unfoldable pub sshsig_in : List ℕ → Result Sshsig BodyError
sshsig_in bytes = if nat_lt longest (length bytes) then Err errors.TooLong else sshsig_at (start bytes)
