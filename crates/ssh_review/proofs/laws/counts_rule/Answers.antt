use Rattle.ssh_review.proofs.Imports.{[]}
use Rattle.ssh_review.proofs.CodeLemmas.{counts-add, host-counts-add}
use Rattle.ssh_review.proofs.laws.counts_rule.Goals as goal

pub returns : goal.returns
returns c = record { entries = λ asking lines. counts-add asking [] lines; hosts = λ asking lines. host-counts-add asking [] lines }
