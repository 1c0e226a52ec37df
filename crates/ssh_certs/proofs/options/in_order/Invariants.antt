use Rattle.ssh_certs.proofs.Imports.{◌≡◌, ◌||◌, ℕ, List, list_any, bytes_eq, principals_left, holds}
use Rattle.ssh_certs.proofs.options.in_order.Given as goal

abbrev pub invariant-loop-name : goal.invariant-loop-name
invariant-loop-name l =
    (goal.iterator-loop-name).can_next l.name-iterator × (goal.iterator-loop-name).is_finite l.name-iterator
    × ((name : List ℕ) → (list_any (λ x. bytes_eq name x) (principals_left l.name-iterator) || holds l.names name)
    ≡ list_any (λ x. bytes_eq name x) (principals_left l.fn.principals))
