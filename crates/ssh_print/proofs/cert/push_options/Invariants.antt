use Rattle.ssh_print.proofs.Imports.{◌≡◌, ◌++◌, flat_map, options_left, option_line}
use Rattle.ssh_print.proofs.cert.push_options.Given as goal

abbrev pub invariant-loop-name : goal.invariant-loop-name
invariant-loop-name l =
    (goal.iterator-loop-name).can_next l.name-iterator × (goal.iterator-loop-name).is_finite l.name-iterator
    × (l.fn.out.items ++ flat_map (option_line l.fn.word) (options_left l.fn.options) ≡ l.out.items ++ flat_map (option_line l.fn.word) (options_left l.name-iterator))
