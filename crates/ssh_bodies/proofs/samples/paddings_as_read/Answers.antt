use Rattle.ssh_bodies.proofs.Imports.{refl}
use Rattle.ssh_wire.specs.Reading.{string_at, mpint_at}
use Rattle.ssh_wire.specs.Spelling.{mpint_bytes}
use Rattle.ssh_keys.specs.Names.{plain_kind, certificate_kind}
use Rattle.ssh_keys.specs.PublicKey.{key_blob}
use Rattle.ssh_keys.specs.KeyReading.{positive_at as key_positive_at, point_at, public_at, fields_at, blob_at, key_in}
use Rattle.ssh_bodies.specs.BodyReading.{key_at, body_positive_at}
use Rattle.ssh_bodies.specs.PrivateKey.{section_front, body_padded}
use Rattle.ssh_bodies.specs.PrivateReading.{rsa_at, curve_at, ed25519_at, handle_at, private_at, section_at, not_encrypted_at, section_start, body_at, private_in}
use Rattle.ssh_bodies.proofs.samples.paddings_as_read.Goals as goal

pub returns : goal.returns
unfolding string_at mpint_at mpint_bytes plain_kind certificate_kind key_blob key_positive_at point_at public_at fields_at blob_at key_in key_at body_positive_at section_front body_padded rsa_at curve_at ed25519_at handle_at private_at section_at not_encrypted_at section_start body_at private_in
returns c = (refl, refl, refl)
