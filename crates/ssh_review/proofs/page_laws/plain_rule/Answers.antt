use Rattle.ssh_review.proofs.PlainWordLemmas.{host-rows-plain, rows-plain}
use Rattle.ssh_review.proofs.page_laws.plain_rule.Goals as goal

pub returns : goal.returns
returns c = record { login = rows-plain; host = host-rows-plain }
