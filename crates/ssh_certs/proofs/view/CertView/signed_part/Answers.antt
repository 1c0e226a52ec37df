use Rattle.ssh_certs.proofs.Imports.{certificate_of}
use Rattle.ssh_certs.proofs.CertificateLaws.{signed_front}
use Rattle.ssh_certs.proofs.view.CertView.signed_part.Goals as goal

pub slice_bounds-result-count : goal.slice_bounds-result-count
slice_bounds-result-count c =
    let view = c.args.self.now in
    (signed_front (certificate_of view) view.blob.now view.fields.raw_signature.now view.spelled.spelled view.fields.signature_spelled).0

pub returns : goal.returns
returns c =
    let view = c.args.self.now in
    (signed_front (certificate_of view) view.blob.now view.fields.raw_signature.now view.spelled.spelled view.fields.signature_spelled).1
