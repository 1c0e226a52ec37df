use Rattle.ssh_trust.proofs.HostMeaningLemmas.{host_means}
use Rattle.ssh_trust.proofs.laws.host_decision_rule.Goals as goal

pub returns : goal.returns
returns c = host_means
