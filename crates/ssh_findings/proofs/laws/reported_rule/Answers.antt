use Rattle.ssh_findings.proofs.StandsLemmas.{reported-outside}
use Rattle.ssh_findings.proofs.laws.reported_rule.Goals as goal

pub returns : goal.returns
returns c = reported-outside
