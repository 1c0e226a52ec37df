use Rattle.ssh_findings.proofs.EntryLemmas.{none_of, sum_of_none}
use Rattle.ssh_findings.proofs.map.ByteMap.new.Goals as goal

pub returns-clause-empty : goal.returns-clause-empty
returns-clause-empty g c = λ text. none_of _ text c.new-2.ensures.items c.new-3.ensures.empty

pub returns-clause-sum : goal.returns-clause-sum
returns-clause-sum g c = λ weight. sum_of_none weight _ c.new-2.ensures.items c.new-3.ensures.empty
