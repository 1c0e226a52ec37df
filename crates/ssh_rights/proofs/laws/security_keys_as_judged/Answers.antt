use Rattle.ssh_rights.proofs.Imports.{refl}
use Rattle.ssh_rights.proofs.laws.security_keys_as_judged.Goals as goal

pub returns : goal.returns
returns c = record {
  touched = (refl, refl, refl, refl, refl);
  certificates_touched = (refl, refl, refl, refl, refl, refl, refl, refl, refl);
  verified = (refl, refl, refl, refl);
  certificates_verified = (refl, refl, refl, refl, refl, refl, refl, refl, refl);
}
