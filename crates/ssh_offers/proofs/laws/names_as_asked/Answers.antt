use Rattle.ssh_offers.proofs.Imports.{refl}
use Rattle.ssh_offers.proofs.laws.names_as_asked.Goals as goal

pub returns : goal.returns
returns c = record {
  keys = (refl, refl, refl, refl, refl, refl, refl, refl);
  certificates = (refl, refl, refl, refl, refl, refl, refl, refl);
  weak = (refl, refl, refl, refl, refl, refl);
  swapped = (refl, refl, refl, refl, refl, refl, refl, refl, refl, refl, refl, refl, refl, refl, refl, refl);
  other = (refl, refl, refl, refl, refl, refl, refl, refl, refl, refl, refl, refl, refl, refl, refl);
}
