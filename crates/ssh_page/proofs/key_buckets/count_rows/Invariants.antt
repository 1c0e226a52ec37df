use Rattle.std.proofs.Common.{◌≡◌, ◌+◌, length, map}
use Rattle.ssh_page.specs.Buckets.{bucket_seen, joined}
use Rattle.ssh_page.proofs.key_buckets.count_rows.Given as goal

abbrev pub invariant-loop-rest : goal.invariant-loop-rest
invariant-loop-rest l = l.count + length (joined (map bucket_seen l.rest)) ≡ length (joined (map bucket_seen l.buckets))

abbrev pub decreases-loop-rest : goal.decreases-loop-rest
decreases-loop-rest l = length l.rest
