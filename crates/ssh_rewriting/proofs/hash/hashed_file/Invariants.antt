use Rattle.ssh_rewriting.proofs.Imports.{◌≡◌, ◌+◌, [], length, lines_of, numbered, bounded_lines, hashed_lines, names_hidden}
use Rattle.ssh_rewriting.proofs.HashLoopLemmas.{lines_left, names_left}
use Rattle.ssh_rewriting.proofs.hash.hashed_file.Given as goal

abbrev pub invariant-loop-number : goal.invariant-loop-number
invariant-loop-number l =
    (goal.iterator-loop-number).can_next l._number-iterator × (goal.iterator-loop-number).is_finite l._number-iterator
    × (bounded_lines l.new.items (lines_left (numbered (l._number-iterator).0 (lines_of (l._number-iterator).1)) l.salts)
    ≡ bounded_lines [] (hashed_lines (lines_of l.file) l.fn.salts))
    × (length l.salts + length (names_hidden l.file) ≡ length l.fn.salts + names_left (numbered (l._number-iterator).0 (lines_of (l._number-iterator).1)))
