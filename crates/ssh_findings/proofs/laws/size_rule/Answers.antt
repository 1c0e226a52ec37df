use Rattle.ssh_findings.proofs.SizeLemmas.{sized}
use Rattle.ssh_findings.proofs.laws.size_rule.Goals as goal

pub returns : goal.returns
returns c = sized
