use Rattle.ssh_certs.proofs.Imports.{ap, sym, ◌∙◌, same_text, bytes_decides, certificate_of}
use Rattle.ssh_certs.specs.Certificate.{certificate_blob}
use Rattle.ssh_certs.proofs.CertificateLaws.{one_certificate}
use Rattle.ssh_certs.proofs.view.CertViewPartialEq.eq.Goals as goal

pub returns-clause-same : goal.returns-clause-same
returns-clause-same c =
    let a = c.args.self.now in
    let b = c.args.other.now in (
      λ yes. one_certificate (certificate_of a) (certificate_of b) a.spelled.is_certificate b.spelled.is_certificate
          (sym a.spelled.spelled ∙ same_text a.blob.now b.blob.now (sym yes ∙ c.eq.ensures) ∙ b.spelled.spelled),
      λ same. c.eq.ensures ∙ (bytes_decides a.blob.now b.blob.now).1 (a.spelled.spelled ∙ ap certificate_blob same ∙ sym b.spelled.spelled),
    )
