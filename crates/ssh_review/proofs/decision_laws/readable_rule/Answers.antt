use Rattle.ssh_review.proofs.ReadableLemmas.{readable-facts}
use Rattle.ssh_review.proofs.ReadableDecisionLemmas.{readable-answers, readable-grants}
use Rattle.ssh_review.proofs.decision_laws.readable_rule.Goals as goal

pub returns : goal.returns
returns c = record { facts = readable-facts; answered = readable-answers; grants = readable-grants }
