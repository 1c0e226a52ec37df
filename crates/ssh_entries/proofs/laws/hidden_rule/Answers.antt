use Rattle.ssh_entries.proofs.HashedLemmas.{hidden-spelled, length-hashed}
use Rattle.ssh_entries.proofs.laws.hidden_rule.Goals as goal

pub returns : goal.returns
returns c = record { spelled = hidden-spelled; length = λ salt name s. length-hashed salt name s.count }
