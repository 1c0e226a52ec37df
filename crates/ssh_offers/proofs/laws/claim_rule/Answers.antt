use Rattle.ssh_offers.proofs.ClaimLaw.{host-claimed, login-claimed}
use Rattle.ssh_offers.proofs.ClaimReading.{host-found, login-found}
use Rattle.ssh_offers.proofs.laws.claim_rule.Goals as goal

pub returns : goal.returns
returns c = record { login = login-claimed; host = host-claimed; login_read = login-found; host_read = host-found }
