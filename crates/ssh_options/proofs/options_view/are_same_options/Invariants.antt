use Rattle.ssh_options.proofs.Imports.{◌≡◌, are_same_options}
use Rattle.ssh_options.proofs.options_view.are_same_options.Given as goal

abbrev pub invariant-loop-option : goal.invariant-loop-option
invariant-loop-option l =
    (goal.iterator-loop-option).can_next l.option-iterator × (goal.iterator-loop-option).is_finite l.option-iterator
    × ((goal.iterator-loop-option).can_next l.others × (goal.iterator-loop-option).is_finite l.others)
    × (are_same_options l.fn.options l.fn.others ≡ are_same_options l.option-iterator l.others)
