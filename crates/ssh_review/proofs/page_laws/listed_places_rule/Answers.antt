use Rattle.ssh_review.proofs.PagePlaceLemmas.{file-section-places}
use Rattle.ssh_review.proofs.page_laws.listed_places_rule.Goals as goal

pub returns : goal.returns
returns c = file-section-places
