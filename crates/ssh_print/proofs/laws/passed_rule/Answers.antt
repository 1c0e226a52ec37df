use Rattle.ssh_print.proofs.PassedLemmas.{each-passed}
use Rattle.ssh_print.proofs.laws.passed_rule.Goals as goal

pub returns : goal.returns
returns c = λ compared lines reasons o. each-passed compared 1 lines reasons o
