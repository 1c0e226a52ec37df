use Rattle.ssh_rewriting.proofs.Imports.{◌≡◌, ◌++◌, flat_map, after_comma, Keeps}
use Rattle.ssh_rewriting.proofs.lines.put_others.Given as goal

abbrev pub invariant-loop-option : goal.invariant-loop-option
invariant-loop-option l =
    (goal.iterator-loop-option).can_next l.option-iterator × (goal.iterator-loop-option).is_finite l.option-iterator
    × (l.fn.out.items ++ flat_map after_comma l.fn.others ≡ l.out.items ++ flat_map after_comma l.option-iterator) × Keeps l.fn.out.items l.out.items
