use Rattle.ssh_print.proofs.HostLemmas.{port_moved}
use Rattle.ssh_print.proofs.laws.port_rule.Goals as goal

pub returns : goal.returns
returns c = port_moved
