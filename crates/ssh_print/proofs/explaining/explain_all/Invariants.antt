use Rattle.ssh_print.proofs.Imports.{◌≡◌, ◌++◌, drop, map, flat_map, row_text, reported}
use Rattle.ssh_print.specs.Table.{table}
use Rattle.ssh_print.proofs.explaining.explain_all.Given as goal

abbrev pub invariant-loop-section : goal.invariant-loop-section
invariant-loop-section l = l.out.items ++ flat_map (λ section. flat_map row_text (map reported section.now)) (drop l.section-index l.section-items) ≡ flat_map row_text table
