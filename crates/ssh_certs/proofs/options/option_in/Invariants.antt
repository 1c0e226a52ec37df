use Rattle.ssh_certs.proofs.Imports.{◌≡◌, options_left, option_in}
use Rattle.ssh_certs.proofs.options.option_in.Given as goal

abbrev pub invariant-loop-other : goal.invariant-loop-other
invariant-loop-other l =
    (goal.iterator-loop-other).can_next l.other-iterator × (goal.iterator-loop-other).is_finite l.other-iterator
    × (option_in l.name (options_left l.other-iterator) ≡ option_in l.name (options_left l.fn.options))
