use Rattle.ssh_review.proofs.PageKeyLemmas.{file-section-keyed}
use Rattle.ssh_review.proofs.page_laws.listed_keys_rule.Goals as goal

pub returns : goal.returns
returns c = file-section-keyed
