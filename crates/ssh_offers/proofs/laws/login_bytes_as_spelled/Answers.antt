use Rattle.ssh_offers.proofs.Imports.{refl}
use Rattle.ssh_offers.specs.Evidence.{login_bytes}
use Rattle.ssh_offers.proofs.laws.login_bytes_as_spelled.Goals as goal

pub returns : goal.returns
unfolding login_bytes
returns c = (refl, λ signature host address now zone. refl)
