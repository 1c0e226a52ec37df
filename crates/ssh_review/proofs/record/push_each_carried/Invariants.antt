use Rattle.ssh_review.proofs.Imports.{◌≡◌, ◌++◌, drop, flat_map, carried_inset}
use Rattle.ssh_review.proofs.record.push_each_carried.Given as goal

abbrev pub invariant-loop-text : goal.invariant-loop-text
invariant-loop-text l = l.out.items ++ flat_map carried_inset (drop l.text-index l.carried) ≡ l.initial.out.items ++ flat_map carried_inset l.carried
