use Rattle.ssh_print.proofs.Imports.{◌≡◌, lines_of, numbered, revoking_line}
use Rattle.ssh_print.proofs.known_possible.revoking_line.Given as goal

abbrev pub invariant-loop-number : goal.invariant-loop-number
invariant-loop-number l =
    (goal.iterator-loop-number).can_next l.number-iterator × (goal.iterator-loop-number).is_finite l.number-iterator
    × (revoking_line l.blob l.name (numbered (l.number-iterator).0 (lines_of (l.number-iterator).1))
    ≡ revoking_line l.blob l.name (numbered 1 (lines_of l.file)))
