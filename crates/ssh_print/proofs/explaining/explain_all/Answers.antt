use Rattle.ssh_print.proofs.Imports.{◌++◌, ap, drop, map, ◌∙◌, flat_map, row_text, reported}
use Rattle.ssh_print.proofs.TableLemmas.{all_lines}
use Rattle.ssh_print.proofs.explaining.explain_all.Goals as goal

pub loop-section-init : goal.loop-section-init
loop-section-init c =
    ap (λ items. items ++ flat_map (λ section. flat_map row_text (map reported section.now)) (drop 0 c.sections-section-items.result)) c.new-out.ensures.items
    ∙ all_lines row_text c.sections-section-items.result c.sections-section-items.ensures
