use Rattle.ssh_print.proofs.Imports.{arith}
use Rattle.ssh_print.proofs.ScanLemmas.{front_length, is_all}
use Rattle.ssh_print.proofs.otherwise.listed.Goals as goal

pub slice_bounds-result-end : goal.slice_bounds-result-end
slice_bounds-result-end c = front_length 100 c.args.lines.now (omega (arith, c.if-lines-gt-LISTED.true))

pub returns-else-lines-gt-LISTED : goal.returns-else-lines-gt-LISTED
returns-else-lines-gt-LISTED c = is_all 100 c.args.lines.now (omega (arith, c.if-lines-gt-LISTED.false))
