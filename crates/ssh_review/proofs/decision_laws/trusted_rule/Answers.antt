use Rattle.ssh_review.proofs.HostListingLemmas.{trusted}
use Rattle.ssh_review.proofs.decision_laws.trusted_rule.Goals as goal

pub returns : goal.returns
returns c = trusted
