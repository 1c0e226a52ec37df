use Rattle.ssh_rules.proofs.Imports.{◌≡◌, options_left, first_unknown}
use Rattle.ssh_rules.proofs.certificate.first_unknown.Given as goal

abbrev pub invariant-loop-name : goal.invariant-loop-name
invariant-loop-name l =
    (goal.iterator-loop-name).can_next l.name-iterator × (goal.iterator-loop-name).is_finite l.name-iterator
    × (first_unknown (options_left l.name-iterator) ≡ first_unknown (options_left l.fn.options))
