use Rattle.ssh_print.proofs.Imports.{◌≡◌, ◌++◌, principals_left, first_principals}
use Rattle.ssh_print.proofs.comparison.push_first_principals.Given as goal

abbrev pub invariant-loop-name : goal.invariant-loop-name
invariant-loop-name l =
    (goal.iterator-loop-name).can_next l.name-iterator × (goal.iterator-loop-name).is_finite l.name-iterator
    × (l.out.items ++ first_principals l.left (principals_left l.name-iterator) ≡ l.initial.out.items ++ first_principals 16 (principals_left l.principals))
