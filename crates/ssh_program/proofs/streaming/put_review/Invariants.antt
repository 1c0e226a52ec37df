use Rattle.ssh_program.proofs.Imports.{◌≡◌, [], length, NoneFailed, asking_of}
use Rattle.ssh_review.specs.Making.{keys_left, lines_left}
use Rattle.ssh_program.proofs.PutLemmas.{PutSoFar}
use Rattle.ssh_program.proofs.streaming.put_review.Given as goal

abbrev pub invariant-loop-out : goal.invariant-loop-out
invariant-loop-out g l =
    NoneFailed (g.W.Sink.account l.writer) × (l.out.items ≡ [])
    × PutSoFar g.L.LineRecords.tells l.show l.form (asking_of l.asked) l.head l.fn.begun l.records (g.W.Sink.account l.fn.writer) (g.W.Sink.account l.writer)
    × (keys_left g.L.LineRecords.keys_on l.records l.keys ≡ keys_left g.L.LineRecords.keys_on l.fn.begun l.fn.keys)

abbrev pub decreases-loop-out : goal.decreases-loop-out
decreases-loop-out g l = length (lines_left l.records)
