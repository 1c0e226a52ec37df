use Rattle.std.proofs.Common.{map, rules}
use Rattle.ssh_page.specs.Buckets.{bucket_seen, joined}
use Rattle.ssh_page.specs.KeyGroups.{group_of, group_seen, runs}
use Rattle.ssh_page.proofs.BucketLemmas.{all_grouped, bucket_grouped}
use Rattle.ssh_page.proofs.key_groups.runs.Goals as goal

pub loop-bucket-preserved : goal.loop-bucket-preserved
loop-bucket-preserved c =
    bucket_grouped c.loop-bucket.bucket-index c.args.buckets.now c.bucket-item.result (map group_seen c.loop-bucket.groups.items) (map group_seen c.push_runs.new.groups.items)
    (map group_of (joined (map runs (map bucket_seen c.args.buckets.now)))) c.loop-bucket-test.true (search rules) (search rules) c.loop-bucket.invariant

pub returns : goal.returns
returns c =
    all_grouped c.loop-bucket.bucket-index c.args.buckets.now (map group_seen c.loop-bucket.groups.items) (map group_of (joined (map runs (map bucket_seen c.args.buckets.now))))
    c.loop-bucket-test.false c.loop-bucket.invariant
