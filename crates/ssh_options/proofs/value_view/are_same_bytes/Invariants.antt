use Rattle.ssh_options.proofs.Imports.{◌≡◌, bytes_eq}
use Rattle.ssh_options.proofs.value_view.are_same_bytes.Given as goal

abbrev pub invariant-loop-byte : goal.invariant-loop-byte
invariant-loop-byte l =
    (goal.iterator-loop-byte).can_next l.byte-iterator × (goal.iterator-loop-byte).is_finite l.byte-iterator
    × ((goal.iterator-loop-byte).can_next l.other × (goal.iterator-loop-byte).is_finite l.other)
    × (bytes_eq l.fn.bytes l.fn.other ≡ bytes_eq l.byte-iterator l.other)
