use Rattle.ssh_host_rules.proofs.Imports.{refl}
use Rattle.ssh_host_rules.proofs.laws.host_certificates_as_judged.Goals as goal

pub returns : goal.returns
returns c = record {
  checked_certificate = (refl, refl, refl, refl, refl, refl, refl, refl, refl, refl, refl);
  named = (refl, refl, refl);
}
