use Rattle.ssh_options.proofs.Imports.{◌≡◌, has_flag}
use Rattle.ssh_options.proofs.options_view.has_flag.Given as goal

abbrev pub invariant-loop-option : goal.invariant-loop-option
invariant-loop-option l =
    (goal.iterator-loop-option).can_next l.option-iterator × (goal.iterator-loop-option).is_finite l.option-iterator
    × (has_flag l.flag l.fn.options ≡ has_flag l.flag l.option-iterator)
