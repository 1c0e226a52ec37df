use Rattle.ssh_review.proofs.SpelledLemmas.{counts_alike, records_alike}
use Rattle.ssh_review.proofs.decision_laws.spelled_alike_rule.Goals as goal

pub returns : goal.returns
returns c = record { records = records_alike; counts = counts_alike }
