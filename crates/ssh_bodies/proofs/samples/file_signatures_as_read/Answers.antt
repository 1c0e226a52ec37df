use Rattle.ssh_bodies.proofs.Imports.{refl}
use Rattle.ssh_wire.specs.Reading.{string_at}
use Rattle.ssh_keys.specs.Names.{plain_kind, certificate_kind}
use Rattle.ssh_keys.specs.PublicKey.{key_blob}
use Rattle.ssh_keys.specs.KeyReading.{public_at, fields_at, blob_at, key_in}
use Rattle.ssh_keys.specs.Signature.{signature_blob, sk_at, signature_at as blob_signature_at, signature_in}
use Rattle.ssh_bodies.specs.BodyReading.{key_at}
use Rattle.ssh_bodies.specs.Sshsig.{sshsig_blob}
use Rattle.ssh_bodies.specs.SshsigReading.{sshsig_signature_at, sshsig_at, sshsig_in}
use Rattle.ssh_bodies.proofs.samples.file_signatures_as_read.Goals as goal

pub returns : goal.returns
unfolding string_at plain_kind certificate_kind key_blob public_at fields_at blob_at key_in signature_blob sk_at blob_signature_at signature_in key_at sshsig_blob sshsig_signature_at sshsig_at sshsig_in
returns c = (refl, refl, refl, refl, refl, refl, refl, refl, refl, refl, refl, refl)
