use Rattle.ssh_rewriting.proofs.Imports.{◌≡◌, ◌++◌, escaped, Keeps}
use Rattle.ssh_rewriting.proofs.lines.put_escaped.Given as goal

abbrev pub invariant-loop-byte : goal.invariant-loop-byte
invariant-loop-byte l =
    (goal.iterator-loop-byte).can_next l.byte-iterator × (goal.iterator-loop-byte).is_finite l.byte-iterator
    × (l.fn.out.items ++ escaped l.fn.value ≡ l.out.items ++ escaped l.byte-iterator) × Keeps l.fn.out.items l.out.items
