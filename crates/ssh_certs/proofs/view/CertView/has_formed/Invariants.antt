use Rattle.ssh_certs.proofs.Imports.{◌≡◌, list_any, certificate_of, has_formed, is_formed, options_left}
use Rattle.ssh_certs.proofs.view.CertView.has_formed.Given as goal

abbrev pub invariant-loop-name : goal.invariant-loop-name
invariant-loop-name l =
    (goal.iterator-loop-name).can_next l.name-iterator × (goal.iterator-loop-name).is_finite l.name-iterator
    × (list_any (is_formed l.option) (options_left l.name-iterator) ≡ has_formed l.option (certificate_of l.self))
