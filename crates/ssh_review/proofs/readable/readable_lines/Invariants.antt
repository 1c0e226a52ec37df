use Rattle.ssh_review.proofs.Imports.{◌≡◌, ◌++◌, flat_map, lines_of, numbered}
use Rattle.ssh_review.proofs.ReadableLemmas.{kept_at}
use Rattle.ssh_review.proofs.readable.readable_lines.Given as goal

abbrev pub invariant-loop-number : goal.invariant-loop-number
invariant-loop-number l =
    (goal.iterator-loop-number).can_next l._number-iterator × (goal.iterator-loop-number).is_finite l._number-iterator
    × (l.new.items ++ flat_map kept_at (numbered (l._number-iterator).0 (lines_of (l._number-iterator).1)) ≡ flat_map kept_at (numbered 1 (lines_of l.file)))
