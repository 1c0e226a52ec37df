use Rattle.ssh_print.proofs.Imports.{◌≡◌, ◌++◌, codes, flat_map, principals_left, text_line}
use Rattle.ssh_print.proofs.cert.push_principals.Given as goal

abbrev pub invariant-loop-name : goal.invariant-loop-name
invariant-loop-name l =
    (goal.iterator-loop-name).can_next l.name-iterator × (goal.iterator-loop-name).is_finite l.name-iterator
    × (l.fn.out.items ++ flat_map (text_line (codes "principal ")) (principals_left l.fn.principals) ≡ l.out.items ++ flat_map (text_line (codes "principal ")) (principals_left l.name-iterator))
