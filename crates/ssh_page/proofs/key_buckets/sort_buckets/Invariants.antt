use Rattle.std.proofs.Common.{◌≡◌, map}
use Rattle.ssh_page.specs.Buckets.{bucket_seen}
use Rattle.ssh_page.proofs.BucketLemmas.{front_sorted}
use Rattle.ssh_page.proofs.key_buckets.sort_buckets.Given as goal

abbrev pub invariant-loop-bucket : goal.invariant-loop-bucket
invariant-loop-bucket l = map bucket_seen l.buckets ≡ front_sorted l.bucket-index (map bucket_seen l.initial.buckets)
