use Rattle.ssh_entries.proofs.Imports.{◌≡◌, option_copied, length_left, has_empty_item}
use Rattle.ssh_entries.proofs.ListLemmas.{empty_left}
use Rattle.ssh_entries.proofs.names.has_empty_item.Given as goal

abbrev pub invariant-loop-rest : goal.invariant-loop-rest
invariant-loop-rest l = empty_left (option_copied l.rest) ≡ has_empty_item l.list

abbrev pub decreases-loop-rest : goal.decreases-loop-rest
decreases-loop-rest l = length_left (option_copied l.rest)
