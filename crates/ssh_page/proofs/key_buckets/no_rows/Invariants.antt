use Rattle.std.proofs.Common.{◌≡◌, map}
use Rattle.ssh_page.specs.Buckets.{bucket_seen}
use Rattle.ssh_page.proofs.BucketLemmas.{no_rows}
use Rattle.ssh_page.proofs.key_buckets.no_rows.Given as goal

abbrev pub invariant-loop : goal.invariant-loop
invariant-loop l = map bucket_seen l.buckets.items ≡ no_rows l.counter
