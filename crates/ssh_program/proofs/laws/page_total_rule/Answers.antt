use Rattle.ssh_program.proofs.PageTotalLemmas.{failed-total, none-total, read-total}
use Rattle.ssh_program.proofs.laws.page_total_rule.Goals as goal

pub returns : goal.returns
returns c = record { first = none-total; read = read-total; failed = failed-total }
