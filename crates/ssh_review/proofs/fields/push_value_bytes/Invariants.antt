use Rattle.ssh_review.proofs.Imports.{◌≡◌, ◌++◌, escaped}
use Rattle.ssh_review.proofs.fields.push_value_bytes.Given as goal

abbrev pub invariant-loop-byte : goal.invariant-loop-byte
invariant-loop-byte l =
    (goal.iterator-loop-byte).can_next l.byte-iterator × (goal.iterator-loop-byte).is_finite l.byte-iterator
    × (l.fn.out.items ++ escaped l.fn.value ≡ l.out.items ++ escaped l.byte-iterator)
