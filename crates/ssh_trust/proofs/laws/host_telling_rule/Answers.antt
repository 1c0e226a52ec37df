use Rattle.ssh_trust.proofs.TellingLemmas.{host_reported}
use Rattle.ssh_trust.proofs.laws.host_telling_rule.Goals as goal

pub returns : goal.returns
returns c = host_reported
