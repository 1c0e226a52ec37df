use Rattle.ssh_print.proofs.Imports.{arith, rules, lines_of, numbered}
use Rattle.ssh_print.specs.PossibleLines.{unreported_lines}
use Rattle.ssh_print.proofs.ScanLemmas.{enough, gathered}
use Rattle.ssh_print.proofs.possible.unreported_lines.Goals as goal

pub returns-then-len-ge-ENOUGH : goal.returns-then-len-ge-ENOUGH
returns-then-len-ge-ENOUGH c =
    enough 101 c.loop-number.found.items
    (unreported_lines (numbered (c.loop-number.number-iterator).0 (lines_of (c.loop-number.number-iterator).1)))
    (unreported_lines (numbered 1 (lines_of c.args.file.now)))
    c.loop-number.invariant.2 (omega (arith, c.if-len-ge-ENOUGH.true, c.len.ensures)) c.loop-number.invariant.3

pub returns : goal.returns
returns c =
    gathered 101 c.loop-number.found.items (unreported_lines (numbered 1 (lines_of c.args.file.now)))
    (search rules) c.loop-number.invariant.3
