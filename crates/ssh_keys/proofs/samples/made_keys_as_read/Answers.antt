use Rattle.ssh_keys.proofs.Imports.{refl}
use Rattle.ssh_wire.specs.Reading.{string_at, mpint_at}
use Rattle.ssh_wire.specs.Spelling.{mpint_bytes}
use Rattle.ssh_keys.specs.Names.{plain_kind, certificate_kind}
use Rattle.ssh_keys.specs.PublicKey.{key_blob}
use Rattle.ssh_keys.specs.KeyReading.{positive_at, point_at, public_at, fields_at, blob_at, key_in}
use Rattle.base64.proofs.OnLiterals.{base64_on_literals}
use Rattle.ssh_keys.proofs.samples.made_keys_as_read.Goals as goal

pub returns : goal.returns
unfolding string_at mpint_at mpint_bytes plain_kind certificate_kind key_blob positive_at point_at public_at fields_at blob_at key_in base64_on_literals
returns c = ((refl, refl), (refl, refl), (refl, refl), (refl, refl), (refl, refl), (refl, refl), (refl, refl), refl, refl, refl)
