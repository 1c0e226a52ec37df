use Rattle.ssh_trust.proofs.Imports.{host_causes_in_order, login_causes_in_order}
use Rattle.ssh_trust.proofs.laws.causes_in_order.Goals as goal

pub returns : goal.returns
returns c = record {
  login = login_causes_in_order;
  host = host_causes_in_order;
}
