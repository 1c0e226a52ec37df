use Rattle.ssh_rules.proofs.Imports.{◌≡◌, list_any, certificate_of, options_left, has_two, has_repeats}
use Rattle.ssh_rules.proofs.certificate.has_repeated.Given as goal

abbrev pub invariant-loop-name : goal.invariant-loop-name
invariant-loop-name l =
    (goal.iterator-loop-name).can_next l.name-iterator × (goal.iterator-loop-name).is_finite l.name-iterator
    × (list_any (λ o. has_two o.name (certificate_of l.certificate).critical) (options_left l.name-iterator) ≡ has_repeats (certificate_of l.certificate).critical)
