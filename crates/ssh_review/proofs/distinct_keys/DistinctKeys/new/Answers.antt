use Rattle.ssh_review.proofs.DistinctLemmas.{no-keys}
use Rattle.ssh_review.proofs.distinct_keys.DistinctKeys.new.Goals as goal

pub invariant_of-result : goal.invariant_of-result
invariant_of-result c = no-keys c.new.result.keys c.new.ensures.empty
