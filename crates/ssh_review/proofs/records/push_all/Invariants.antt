use Rattle.ssh_review.proofs.Imports.{◌≡◌, length, asking_of}
use Rattle.ssh_review.specs.Making.{MakesFront, keys_left, lines_left}
use Rattle.ssh_review.specs.declared.show.Show.TheVariants.{All}
use Rattle.ssh_review.proofs.records.push_all.Given as goal

abbrev pub invariant-loop-records : goal.invariant-loop-records
invariant-loop-records g l =
    MakesFront g.L.LineRecords.tells All l.form (asking_of l.asked) l.head l.fn.begun l.records l.fn.out.items l.out.items
    × (keys_left g.L.LineRecords.keys_on l.records l.keys ≡ keys_left g.L.LineRecords.keys_on l.fn.begun l.fn.keys)

abbrev pub decreases-loop-records : goal.decreases-loop-records
decreases-loop-records g l = length (lines_left l.records)
