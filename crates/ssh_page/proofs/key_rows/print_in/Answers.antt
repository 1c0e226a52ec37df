use Rattle.std.proofs.Common.{◌∙◌, sym}
use Rattle.ssh_page.proofs.ScanLemmas.{print_found, print_not_found, print_nowhere}
use Rattle.ssh_page.proofs.key_rows.print_in.Goals as goal

pub returns-in_default : goal.returns-in_default
returns-in_default c =
    sym (print_nowhere c.mark.result c.mark-print.result c.args.cell.now c.mark.ensures c.mark-print.ensures c.in_default.ensures)

pub returns-then-cell-at : goal.returns-then-cell-at
returns-then-cell-at c =
    c.front_text.ensures
    ∙ print_found c.mark.result c.mark-print.result c.args.cell.now c.in-Some.at c.mark.ensures c.mark-print.ensures c.in-Some.ensures c.if-cell-at.true

pub returns-else-cell-at : goal.returns-else-cell-at
returns-else-cell-at c =
    sym (print_not_found c.mark.result c.mark-print.result c.args.cell.now c.in-Some.at c.mark.ensures c.mark-print.ensures c.in-Some.ensures c.if-cell-at.false)
