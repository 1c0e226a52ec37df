use Rattle.ssh_review.proofs.Imports.{◌≡◌, ◌++◌, flat_map, lines_of, numbered}
use Rattle.ssh_review.proofs.ReadableLemmas.{left_out_at}
use Rattle.ssh_review.proofs.readable.left_out.Given as goal

abbrev pub invariant-loop-number : goal.invariant-loop-number
invariant-loop-number l =
    (goal.iterator-loop-number).can_next l.number-iterator × (goal.iterator-loop-number).is_finite l.number-iterator
    × (l.text.items ++ flat_map left_out_at (numbered (l.number-iterator).0 (lines_of (l.number-iterator).1)) ≡ flat_map left_out_at (numbered 1 (lines_of l.file)))
