use Rattle.ssh_options.proofs.Imports.{◌≡◌, drop, bytes_eq}
use Rattle.ssh_options.proofs.value_view.is_text.Given as goal

abbrev pub invariant-loop-byte : goal.invariant-loop-byte
invariant-loop-byte l =
    (goal.iterator-loop-byte).can_next l.bytes × (goal.iterator-loop-byte).is_finite l.bytes
    × (bytes_eq l.fn.bytes l.text ≡ bytes_eq l.bytes (drop l.byte-index l.text))
