use Rattle.ssh_findings.proofs.LawLemmas.{found, least, none}
use Rattle.ssh_findings.proofs.laws.least_rule.Goals as goal

pub returns : goal.returns
returns c = record { found = found; least = least; none = none }
