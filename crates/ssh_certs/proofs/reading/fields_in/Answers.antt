use Rattle.ssh_certs.proofs.Imports.{subst, start, Gives, CertError, Certificate, certificate_from}
use Rattle.std.specs.Prelude.{Result}
use Rattle.ssh_certs.proofs.PartLaws.{parts_are}
use Rattle.ssh_certs.proofs.reading.fields_in.Goals as goal

pub returns : goal.returns
returns c = subst (λ (read : Result Certificate CertError). Gives certificate_from c.parts_in.result read) (parts_are (start c.args.blob.now)) c.parts_in.ensures
