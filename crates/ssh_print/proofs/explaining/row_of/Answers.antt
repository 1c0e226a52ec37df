use Rattle.ssh_print.proofs.Imports.{Some, ap, ◌∙◌}
use Rattle.ssh_print.proofs.TableLemmas.{search_begins, row_here, not_here}
use Rattle.ssh_print.proofs.explaining.row_of.Goals as goal

pub loop-section-init : goal.loop-section-init
loop-section-init c = search_begins c.args.code.now c.sections-section-items.result c.sections-section-items.ensures

pub returns-in-Some : goal.returns-in-Some
returns-in-Some c =
    ap Some c.row_from.ensures
    ∙ row_here c.args.code.now c.sections-section-items.result c.loop-section.section-index _ _ c.sections-section-items.ensures c.loop-section-test.true c.loop-section.invariant c.in-Some.ensures

pub loop-section-preserved : goal.loop-section-preserved
loop-section-preserved c =
    not_here c.args.code.now c.sections-section-items.result c.loop-section.section-index _ c.sections-section-items.ensures c.loop-section-test.true c.loop-section.invariant c.in_default.ensures
