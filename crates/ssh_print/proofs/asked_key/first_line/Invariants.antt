use Rattle.ssh_print.proofs.Imports.{◌≡◌, lines_of, numbered, first_line}
use Rattle.ssh_print.proofs.asked_key.first_line.Given as goal

abbrev pub invariant-loop-number : goal.invariant-loop-number
invariant-loop-number l =
    (goal.iterator-loop-number).can_next l.number-iterator × (goal.iterator-loop-number).is_finite l.number-iterator
    × (first_line l.matcher l.firm (numbered (l.number-iterator).0 (lines_of (l.number-iterator).1)) ≡ first_line l.matcher l.firm (numbered 1 (lines_of l.file)))
