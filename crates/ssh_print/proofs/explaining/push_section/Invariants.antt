use Rattle.ssh_print.proofs.Imports.{◌≡◌, ◌++◌, drop, map, flat_map, row_text, reported}
use Rattle.ssh_print.proofs.explaining.push_section.Given as goal

abbrev pub invariant-loop-texts : goal.invariant-loop-texts
invariant-loop-texts l = l.out.items ++ flat_map row_text (map reported (drop l.texts-index l.section)) ≡ l.initial.out.items ++ flat_map row_text (map reported l.section)
