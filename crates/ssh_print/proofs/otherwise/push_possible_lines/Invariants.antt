use Rattle.ssh_print.proofs.Imports.{◌≡◌, ◌++◌, drop, flat_map, possible_line}
use Rattle.ssh_print.proofs.otherwise.push_possible_lines.Given as goal

abbrev pub invariant-loop-line : goal.invariant-loop-line
invariant-loop-line l =
    l.out.items ++ flat_map (possible_line l.who l.first) (drop l.line-index l.lines) ≡ l.initial.out.items ++ flat_map (possible_line l.who l.first) l.lines
