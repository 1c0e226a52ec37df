use Rattle.ssh_program.proofs.DenialLemmas.{denied_another}
use Rattle.ssh_program.proofs.laws.denied_rule.Goals as goal

pub returns : goal.returns
returns c = denied_another
