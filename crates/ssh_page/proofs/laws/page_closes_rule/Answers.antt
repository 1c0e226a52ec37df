use Rattle.ssh_page.proofs.FileLemmas.{page_closes}
use Rattle.ssh_page.proofs.laws.page_closes_rule.Goals as goal

pub returns : goal.returns
returns c = λ title q t found names sections rows total h k. (page_closes title q t found names sections rows total h k).by
