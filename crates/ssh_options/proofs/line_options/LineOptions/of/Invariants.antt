use Rattle.ssh_options.proofs.Imports.{◌≡◌, noted_after}
use Rattle.ssh_options.proofs.LineOptionLemmas.{none_noted}
use Rattle.ssh_options.proofs.line_options.LineOptions.of.Given as goal

abbrev pub invariant-loop-option : goal.invariant-loop-option
invariant-loop-option l =
    (goal.iterator-loop-option).can_next l.option-iterator × (goal.iterator-loop-option).is_finite l.option-iterator
    × (noted_after l.noted l.option-iterator ≡ noted_after none_noted l.fn.options)
