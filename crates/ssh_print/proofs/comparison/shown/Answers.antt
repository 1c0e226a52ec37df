use Rattle.ssh_print.proofs.Imports.{arith, sym}
use Rattle.std.proofs.lemmas.List.{length-take-le, take_all}
use Rattle.ssh_print.proofs.comparison.shown.Goals as goal

pub slice_bounds-result-end : goal.slice_bounds-result-end
slice_bounds-result-end c = sym (length-take-le 256 c.args.text.now (omega (arith, c.if-text-gt-SHOWN.true)))

pub returns-else-text-gt-SHOWN : goal.returns-else-text-gt-SHOWN
returns-else-text-gt-SHOWN c = sym (take_all 256 c.args.text.now (omega (arith, c.if-text-gt-SHOWN.false)))
