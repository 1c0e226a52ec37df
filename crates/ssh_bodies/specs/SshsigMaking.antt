-- The file signature of fields that were not read from a body.
use Rattle.std.specs.Prelude.{◌≡◌, ℕ, List, length, Result, Ok, nat_lt, nat_le}
use Rattle.ssh_wire.specs.Reading.{◌>>=◌}
use Rattle.ssh_keys.specs.KeyReading.{key_in}
use Rattle.ssh_keys.specs.PublicKey.{PublicKey, key_blob, longest}
use Rattle.ssh_keys.specs.Signature.{Signature, signature_blob, signature_in}
use Rattle.ssh_bodies.specs.declared.error.BodyError.{BodyError}
use Rattle.ssh_bodies.specs.declared.error.BodyError.TheVariants as errors
use Rattle.ssh_bodies.specs.declared.sshsig.HashName.{HashName}
use Rattle.ssh_bodies.specs.BodyReading.{of_key, as_body_error, body_wants}
use Rattle.ssh_bodies.specs.Sshsig.{Sshsig, sshsig_blob, IsSshsig}

-- a file signature with these fields, its key and its signature by their blobs, which has a body
pub record IsSshsigWith (key namespace reserved : List ℕ) (hash : HashName) (signature : List ℕ) (v : Sshsig) : Type 0 where
  pub is_sshsig : IsSshsig v
  pub key_is : key ≡ key_blob v.key
  pub namespace_is : namespace ≡ v.namespace
  pub reserved_is : reserved ≡ v.reserved
  pub hash_is : hash ≡ v.hash
  pub signature_is : signature ≡ signature_blob v.signature

-- the file signature of a key and a signature
abbrev pub sshsig_with : PublicKey → List ℕ → List ℕ → HashName → Signature → Sshsig
sshsig_with key namespace reserved hash signature = record { key = key; namespace = namespace; reserved = reserved; hash = hash; signature = signature }

-- the file signature with these fields, or the first error
unfoldable pub sshsig_from : List ℕ → List ℕ → List ℕ → HashName → List ℕ → Result Sshsig BodyError
sshsig_from key_text namespace reserved hash signature_text = do
  key ← of_key (key_in key_text)
  _ ← body_wants (nat_lt 0 (length namespace)) errors.EmptyNamespace
  signature ← as_body_error (signature_in signature_text)
  _ ← body_wants (nat_le (length (sshsig_blob (sshsig_with key namespace reserved hash signature))) longest) errors.TooLong
  Ok (sshsig_with key namespace reserved hash signature)
