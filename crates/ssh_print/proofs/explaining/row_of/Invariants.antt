use Rattle.ssh_print.proofs.Imports.{◌≡◌, drop, find, map, flat_map, is_of, reported}
use Rattle.ssh_print.specs.Table.{row_of}
use Rattle.ssh_print.proofs.explaining.row_of.Given as goal

abbrev pub invariant-loop-section : goal.invariant-loop-section
invariant-loop-section l = row_of l.code ≡ find (is_of l.code) (flat_map (λ section. map reported section.now) (drop l.section-index l.section-items))
