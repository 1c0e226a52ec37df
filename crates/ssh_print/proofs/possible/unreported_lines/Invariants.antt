use Rattle.ssh_print.proofs.Imports.{◌≡◌, ◌++◌, ◌≤◌, length, lines_of, numbered}
use Rattle.ssh_print.specs.PossibleLines.{unreported_lines}
use Rattle.ssh_print.proofs.possible.unreported_lines.Given as goal

abbrev pub invariant-loop-number : goal.invariant-loop-number
invariant-loop-number l =
    (goal.iterator-loop-number).can_next l.number-iterator × (goal.iterator-loop-number).is_finite l.number-iterator
    × (l.found.items ++ unreported_lines (numbered (l.number-iterator).0 (lines_of (l.number-iterator).1)) ≡ unreported_lines (numbered 1 (lines_of l.file)))
    × (length l.found.items ≤ 101)
