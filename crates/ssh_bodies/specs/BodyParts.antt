-- The bodies in parts: what comes before the keys, and the rest. Laws state that reading part by part is reading field by field (proofs/PartLaws.antt).
use Rattle.std.specs.Prelude.{ℕ, length, Result, Ok, nat_lt, ◌==◌}
use Rattle.std.specs.Int.{w32}
use Rattle.std.specs.Str.{bytes_eq}
use Rattle.ssh_wire.specs.Position.{Position}
use Rattle.ssh_wire.specs.Reading.{◌>>=◌, number_at, string_at}
use Rattle.ssh_keys.specs.Names.{key_name_of}
use Rattle.ssh_keys.specs.PublicKey.{PublicKey, kind_of}
use Rattle.ssh_bodies.specs.declared.error.BodyError.{BodyError}
use Rattle.ssh_bodies.specs.declared.error.BodyError.TheVariants as errors
use Rattle.ssh_bodies.specs.BodyReading.{ReadBody, as_body_error, body_wants, magic_at, key_at, last_at}
use Rattle.ssh_bodies.specs.PrivateKey.{PrivateBody, private_magic}
use Rattle.ssh_bodies.specs.PrivateReading.{private_at, is_padding, not_encrypted_at, section_start}
use Rattle.ssh_bodies.specs.Sshsig.{Sshsig, sshsig_magic}
use Rattle.ssh_bodies.specs.SshsigReading.{hash_from, sshsig_signature_at}

-- the check numbers of a private section, and the type name, which must be this public key's
unfoldable pub section_head_at : PublicKey → Position → ReadBody ℕ
section_head_at public at = do
  check ← as_body_error (number_at w32 at)
  again ← as_body_error (number_at w32 check.1)
  _ ← body_wants (check.0 == again.0) errors.CheckMismatch
  name ← as_body_error (string_at again.1)
  _ ← body_wants (bytes_eq name.0 (key_name_of (kind_of public))) errors.PublicMismatch
  Ok (check.0, name.1)

unfoldable pub section_by_parts : PublicKey → Position → Result PrivateBody BodyError
section_by_parts public at = do
  head ← section_head_at public at
  key ← private_at public head.1
  _ ← body_wants key.0.1 errors.PublicMismatch
  comment ← as_body_error (string_at key.1)
  _ ← body_wants (is_padding (comment.1).rest) errors.Padding
  Ok (record { check = head.0; key = key.0.0; comment = comment.0 })

-- a private body up to its public key: not encrypted, one key
unfoldable pub body_head_at : Position → ReadBody (Unit {0})
body_head_at at = do
  magic ← magic_at private_magic at
  plain ← not_encrypted_at magic.1
  count ← as_body_error (number_at w32 plain.1)
  _ ← body_wants (count.0 == 1) errors.KeyCount
  Ok (tt, count.1)

unfoldable pub body_by_parts : Position → Result PrivateBody BodyError
body_by_parts at = do
  head ← body_head_at at
  public ← key_at head.1
  inside ← section_start public.1
  section_by_parts public.0 inside.1

-- a file signature's body up to its public key
unfoldable pub sshsig_head_at : Position → ReadBody (Unit {0})
sshsig_head_at at = do
  magic ← magic_at sshsig_magic at
  version ← as_body_error (number_at w32 magic.1)
  _ ← body_wants (version.0 == 1) errors.Version
  Ok (tt, version.1)

unfoldable pub sshsig_by_parts : Position → Result Sshsig BodyError
sshsig_by_parts at = do
  head ← sshsig_head_at at
  key ← key_at head.1
  namespace ← as_body_error (string_at key.1)
  _ ← body_wants (nat_lt 0 (length namespace.0)) errors.EmptyNamespace
  reserved ← as_body_error (string_at namespace.1)
  name ← as_body_error (string_at reserved.1)
  hash ← hash_from name.0
  signature ← sshsig_signature_at name.1
  _ ← last_at signature.1
  Ok (record { key = key.0; namespace = namespace.0; reserved = reserved.0; hash = hash; signature = signature.0 })
