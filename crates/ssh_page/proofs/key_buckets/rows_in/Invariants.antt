use Rattle.std.proofs.Common.{◌≡◌, ◌++◌, length, map}
use Rattle.ssh_page.specs.Buckets.{ArePlaced, AreSameByKey, bucket_seen, joined}
use Rattle.ssh_page.specs.KeyRows.{rows_in}
use Rattle.ssh_page.proofs.key_buckets.rows_in.Given as goal

abbrev pub invariant-loop-row : goal.invariant-loop-row
invariant-loop-row l =
    (length l.buckets.items ≡ 256) × ArePlaced 0 (map bucket_seen l.buckets.items)
    × AreSameByKey (joined (map bucket_seen l.buckets.items) ++ rows_in l.rest) (rows_in l.sections)

abbrev pub decreases-loop-row : goal.decreases-loop-row
decreases-loop-row l = length l.rest
