use Rattle.ssh_rules.proofs.Imports.{◌≡◌, options_left, list_all, has_its_form}
use Rattle.ssh_rules.proofs.certificate.have_their_forms.Given as goal

abbrev pub invariant-loop-name : goal.invariant-loop-name
invariant-loop-name l =
    (goal.iterator-loop-name).can_next l.name-iterator × (goal.iterator-loop-name).is_finite l.name-iterator
    × (list_all has_its_form (options_left l.name-iterator) ≡ list_all has_its_form (options_left l.fn.options))
