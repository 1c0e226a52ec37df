use Rattle.ssh_print.proofs.Imports.{◌≡◌, lines_of, numbered, first_mismatch}
use Rattle.ssh_print.proofs.details.push_first_mismatch.Given as goal

abbrev pub invariant-loop-number : goal.invariant-loop-number
invariant-loop-number l =
    (goal.iterator-loop-number).can_next l.number-iterator × (goal.iterator-loop-number).is_finite l.number-iterator
    × (l.out.items ≡ l.initial.out.items)
    × (first_mismatch l.which l.kind l.blob l.name (numbered (l.number-iterator).0 (lines_of (l.number-iterator).1)) ≡ first_mismatch l.which l.kind l.blob l.name (numbered 1 (lines_of l.file)))
