use Rattle.ssh_review.proofs.PageListingLemmas.{host-row-listed, row-listed}
use Rattle.ssh_review.proofs.page_laws.row_listed_rule.Goals as goal

pub returns : goal.returns
returns c = record { login = row-listed; host = host-row-listed }
