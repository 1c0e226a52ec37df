use Rattle.ssh_review.proofs.Imports.{◌≡◌, ◌++◌, flat_map, after_comma}
use Rattle.ssh_review.proofs.fields.push_others.Given as goal

abbrev pub invariant-loop-option : goal.invariant-loop-option
invariant-loop-option l =
    (goal.iterator-loop-option).can_next l.option-iterator × (goal.iterator-loop-option).is_finite l.option-iterator
    × (l.fn.out.items ++ flat_map after_comma l.fn.others ≡ l.out.items ++ flat_map after_comma l.option-iterator)
