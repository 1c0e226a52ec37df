use Rattle.ssh_print.proofs.Imports.{◌≡◌, list_any, certificate_of, principals_left, has_nul}
use Rattle.ssh_print.proofs.possible.has_nul_in_principals.Given as goal

abbrev pub invariant-loop-name : goal.invariant-loop-name
invariant-loop-name l =
    (goal.iterator-loop-name).can_next l.name-iterator × (goal.iterator-loop-name).is_finite l.name-iterator
    × (list_any has_nul (principals_left l.name-iterator) ≡ list_any has_nul (certificate_of l.certificate).principals)
