use Rattle.ssh_certs.proofs.Imports.{refl}
use Rattle.ssh_wire.specs.Reading.{string_at, boolean_at, mpint_at}
use Rattle.ssh_wire.specs.Spelling.{mpint_bytes}
use Rattle.ssh_keys.specs.Names.{plain_kind, certificate_kind}
use Rattle.ssh_keys.specs.PublicKey.{key_blob}
use Rattle.ssh_keys.specs.KeyReading.{positive_at, point_at, public_at, fields_at, blob_at, key_in}
use Rattle.ssh_keys.specs.Signature.{signature_blob, sk_at, signature_at, signature_in}
use Rattle.ssh_certs.specs.Certificate.{signed_part, certificate_blob}
use Rattle.ssh_certs.specs.CertificateReading.{items_within, packed_at, signer_at, cert_signature_at as certificate_signature_at, certificate_at, certificate_in}
use Rattle.ssh_certs.proofs.laws.made_certificates_as_refused.Goals as goal

pub returns : goal.returns
unfolding string_at boolean_at mpint_at mpint_bytes plain_kind certificate_kind key_blob positive_at point_at public_at fields_at blob_at key_in signature_blob sk_at signature_at signature_in signed_part certificate_blob items_within packed_at signer_at certificate_signature_at certificate_at certificate_in
returns c = (refl, refl, refl, refl, refl, refl, refl, refl)
