use Rattle.ssh_page.proofs.PageLemmas.{page-printable}
use Rattle.ssh_page.proofs.laws.shown_rule.Goals as goal

pub returns : goal.returns
returns c = page-printable
