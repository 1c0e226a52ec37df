use Rattle.ssh_review.proofs.RewritingLemmas.{host-same, host-canonical, host-rewritten}
use Rattle.ssh_review.proofs.decision_laws.host_rewritten_rule.Goals as goal

pub returns : goal.returns
returns c = record { facts = host-same; canonical = host-canonical; answer = host-rewritten }
