use Rattle.ssh_print.proofs.Imports.{◌≡◌, ◌++◌, drop, lines_of, numbered, passed_lines}
use Rattle.ssh_print.proofs.passed.push_passed_lines.Given as goal

abbrev pub invariant-loop-reason : goal.invariant-loop-reason
invariant-loop-reason g l =
    l.out.items ++ passed_lines (g.C.Comparing.compared l.comparing) (numbered (l.lines).0 (lines_of (l.lines).1)) (drop l.reason-index l.reasons)
    ≡ l.initial.out.items ++ passed_lines (g.C.Comparing.compared l.comparing) (numbered 1 (lines_of l.file)) l.reasons
