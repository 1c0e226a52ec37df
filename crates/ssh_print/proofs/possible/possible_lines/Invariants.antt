use Rattle.ssh_print.proofs.Imports.{◌≡◌, ◌++◌, ◌≤◌, length, lines_of, numbered, possible_lines}
use Rattle.ssh_print.proofs.possible.possible_lines.Given as goal

abbrev pub invariant-loop-number : goal.invariant-loop-number
invariant-loop-number l =
    (goal.iterator-loop-number).can_next l.number-iterator × (goal.iterator-loop-number).is_finite l.number-iterator
    × (l.found.items ++ possible_lines l.matcher l.before (numbered (l.number-iterator).0 (lines_of (l.number-iterator).1)) ≡ possible_lines l.matcher l.before (numbered 1 (lines_of l.file)))
    × (length l.found.items ≤ 101)
