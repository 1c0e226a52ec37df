use Rattle.ssh_rights.proofs.Imports.{◌≡◌, ◌++◌, carried_texts}
use Rattle.ssh_rights.proofs.rights.carried_texts.Given as goal

abbrev pub invariant-loop-option : goal.invariant-loop-option
invariant-loop-option l =
    (goal.iterator-loop-option).can_next l.option-iterator × (goal.iterator-loop-option).is_finite l.option-iterator
    × (l.carried.items ++ carried_texts l.option-iterator ≡ carried_texts l.fn.options)
