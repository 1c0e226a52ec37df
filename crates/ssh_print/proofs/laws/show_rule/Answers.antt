use Rattle.ssh_print.proofs.ShowLemmas.{one-answer}
use Rattle.ssh_print.proofs.laws.show_rule.Goals as goal

pub returns : goal.returns
returns c = one-answer
