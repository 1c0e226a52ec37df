use Rattle.ssh_review.proofs.Imports.{◌≡◌, ◌≤◌, length, asking_of}
use Rattle.ssh_review.specs.Making.{MakesFront, keys_left, lines_left}
use Rattle.ssh_review.proofs.records.Records.push_some.Given as goal

abbrev pub invariant-loop-out : goal.invariant-loop-out
invariant-loop-out g l =
    MakesFront g.L.LineRecords.tells l.show l.form (asking_of l.asked) l.head l.fn.self l.self l.fn.out.items l.out.items
    × (length (lines_left l.self) ≤ length (lines_left l.fn.self))
    × (keys_left g.L.LineRecords.keys_on l.self l.keys ≡ keys_left g.L.LineRecords.keys_on l.fn.self l.fn.keys)

abbrev pub decreases-loop-out : goal.decreases-loop-out
decreases-loop-out g l = length (lines_left l.self)
