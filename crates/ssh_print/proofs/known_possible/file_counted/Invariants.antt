use Rattle.ssh_print.proofs.Imports.{◌≡◌, ◌++◌, flat_map, lines_of, numbered, line_counted}
use Rattle.ssh_print.proofs.known_possible.file_counted.Given as goal

abbrev pub invariant-loop-number : goal.invariant-loop-number
invariant-loop-number l =
    (goal.iterator-loop-number).can_next l.number-iterator × (goal.iterator-loop-number).is_finite l.number-iterator
    × (l.out.items ++ flat_map (line_counted l.blob l.name) (numbered (l.number-iterator).0 (lines_of (l.number-iterator).1))
    ≡ flat_map (line_counted l.blob l.name) (numbered 1 (lines_of l.file)))
