use Rattle.ssh_rewriting.proofs.Imports.{◌≡◌, ◌++◌, lines_of, numbered, file_with}
use Rattle.ssh_rewriting.proofs.LoopLemmas.{left_written}
use Rattle.ssh_rewriting.proofs.rewrite.written_file.Given as goal

abbrev pub invariant-loop-number : goal.invariant-loop-number
invariant-loop-number g l =
    (goal.iterator-loop-number g).can_next l._number-iterator × (goal.iterator-loop-number g).is_finite l._number-iterator
    × (file_with g.K.Kind.written l.file ≡ l.new.items ++ left_written g.K.Kind.written (numbered (l._number-iterator).0 (lines_of (l._number-iterator).1)))
