-- The private key body of fields that were not read from one, whose errors have the place 0.
use Rattle.std.specs.Prelude.{length, Result, Ok, nat_le}
use Rattle.ssh_wire.specs.declared.cursor.WireCause.TheVariants.{Value}
use Rattle.ssh_wire.specs.Reading.{◌>>=◌}
use Rattle.ssh_keys.specs.KeyReading.{key_from}
use Rattle.ssh_keys.specs.PublicKey.{longest}
use Rattle.ssh_bodies.specs.declared.error.BodyError.{BodyError}
use Rattle.ssh_bodies.specs.declared.error.BodyError.TheVariants as errors
use Rattle.ssh_bodies.specs.BodyReading.{of_key, body_wants}
use Rattle.ssh_bodies.specs.PrivateKey.{PrivateKey, private_ed25519, PrivateBody, public_of, is_private_in_range, private_blob}

-- the error of secret fields that are not in their ranges: an Ed25519 secret does not end with the public key, or a number is zero
abbrev pub range_fault : PrivateKey → BodyError
range_fault (private_ed25519 a secret) = errors.PublicMismatch
range_fault key = errors.Wire (record { place = 0; cause = Value })

-- the body with these fields, or the first error
unfoldable pub private_from : PrivateBody → Result PrivateBody BodyError
private_from v = do
  _ ← of_key (key_from (public_of v.key))
  _ ← body_wants (is_private_in_range v.key) (range_fault v.key)
  _ ← body_wants (nat_le (length (private_blob v)) longest) errors.TooLong
  Ok v
