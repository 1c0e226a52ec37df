use Rattle.ssh_review.proofs.ListingLemmas.{caused, listed, unlisted}
use Rattle.ssh_review.proofs.decision_laws.listed_rule.Goals as goal

pub returns : goal.returns
returns c = record { listed = listed; unlisted = unlisted; caused = caused }
