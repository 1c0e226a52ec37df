use Rattle.ssh_offers.proofs.Imports.{refl}
use Rattle.ssh_offers.proofs.laws.signatures_as_judged.Goals as goal

pub returns : goal.returns
returns c = record {
  paired = (refl, refl, refl, refl, refl, refl, refl, refl, refl, refl, refl);
  fitting = (refl, refl, refl, refl, refl, refl, refl, refl, refl, refl, refl, refl, refl, refl, refl, refl, refl, refl, refl, refl, refl);
  signers = (refl, refl, refl, refl, refl, refl, refl, refl, refl, refl, refl, refl, refl, refl, refl, refl, refl, refl, refl, refl, refl);
}
