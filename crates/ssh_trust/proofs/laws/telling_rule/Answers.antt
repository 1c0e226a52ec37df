use Rattle.ssh_trust.proofs.TellingLemmas.{login_reported}
use Rattle.ssh_trust.proofs.laws.telling_rule.Goals as goal

pub returns : goal.returns
returns c = login_reported
