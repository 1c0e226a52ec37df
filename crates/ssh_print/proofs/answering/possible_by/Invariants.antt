use Rattle.ssh_print.proofs.Imports.{◌≡◌, ◌++◌, drop, lines_of, numbered}
use Rattle.ssh_print.specs.ReasonLines.{possible_by}
use Rattle.ssh_print.proofs.answering.possible_by.Given as goal

abbrev pub invariant-loop-reason : goal.invariant-loop-reason
invariant-loop-reason l =
    l.found.items ++ possible_by l.matcher (numbered (l.lines).0 (lines_of (l.lines).1)) (drop l.reason-index l.reasons)
    ≡ possible_by l.matcher (numbered 1 (lines_of l.file)) l.reasons
