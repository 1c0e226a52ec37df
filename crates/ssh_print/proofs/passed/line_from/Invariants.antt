use Rattle.ssh_print.proofs.Imports.{◌≡◌, length, lines_of, numbered, line_from, lines_after}
use Rattle.ssh_print.proofs.passed.line_from.Given as goal

abbrev pub invariant-loop-next : goal.invariant-loop-next
invariant-loop-next l =
    (line_from l.number (numbered (l.lines).0 (lines_of (l.lines).1)) ≡ line_from l.number (numbered (l.initial.lines).0 (lines_of (l.initial.lines).1)))
    × (lines_after l.number (numbered (l.lines).0 (lines_of (l.lines).1)) ≡ lines_after l.number (numbered (l.initial.lines).0 (lines_of (l.initial.lines).1)))

abbrev pub decreases-loop-next : goal.decreases-loop-next
decreases-loop-next l = length (numbered (l.lines).0 (lines_of (l.lines).1))
