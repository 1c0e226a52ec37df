use Rattle.ssh_print.proofs.Imports.{◌≡◌, ◌++◌, drop, flat_map, carried_line}
use Rattle.ssh_print.proofs.decision_text.push_carried.Given as goal

abbrev pub invariant-loop-text : goal.invariant-loop-text
invariant-loop-text l = l.out.items ++ flat_map (carried_line l.indent) (drop l.text-index l.carried) ≡ l.initial.out.items ++ flat_map (carried_line l.indent) l.carried
