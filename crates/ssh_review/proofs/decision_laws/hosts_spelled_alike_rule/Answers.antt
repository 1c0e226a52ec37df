use Rattle.ssh_review.proofs.HostSpelledLemmas.{known_counts_alike, known_records_alike}
use Rattle.ssh_review.proofs.decision_laws.hosts_spelled_alike_rule.Goals as goal

pub returns : goal.returns
returns c = record { records = known_records_alike; counts = known_counts_alike }
