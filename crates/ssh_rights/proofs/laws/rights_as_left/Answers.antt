use Rattle.ssh_rights.proofs.Imports.{refl}
use Rattle.ssh_rights.proofs.laws.rights_as_left.Goals as goal

pub returns : goal.returns
returns c = record {
  certificates = (refl, refl, refl, refl, refl, refl, refl, refl, refl, refl, refl);
  lines = (refl, refl, refl, refl, refl, refl, refl, refl, refl, refl, refl, refl, refl);
}
