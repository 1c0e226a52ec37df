use Rattle.ssh_trust.proofs.MeaningLemmas.{login_means}
use Rattle.ssh_trust.proofs.laws.decision_rule.Goals as goal

pub returns : goal.returns
returns c = login_means
