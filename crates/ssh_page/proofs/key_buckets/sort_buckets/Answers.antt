use Rattle.std.proofs.Common.{◌∙◌, arith, map, rules, sym}
use Rattle.std.proofs.lemmas.List.{length-map}
use Rattle.ssh_page.specs.Buckets.{bucket_seen}
use Rattle.ssh_page.proofs.BucketLemmas.{all_sorted, bucket_sorted, none_sorted}
use Rattle.ssh_page.proofs.key_buckets.sort_buckets.Goals as goal

pub loop-bucket-init : goal.loop-bucket-init
loop-bucket-init c = sym (none_sorted (map bucket_seen c.args.buckets.now))

pub loop-bucket-preserved : goal.loop-bucket-preserved
loop-bucket-preserved c =
    bucket_sorted c.loop-bucket.bucket-index c.loop-bucket.buckets c.bucket-item.result c.sort_rows.new.rows (map bucket_seen c.args.buckets.now) (search rules)
    c.in_ok-sort_rows.ensures c.loop-bucket.invariant

pub returns : goal.returns
returns c =
    c.loop-bucket.invariant
    ∙ all_sorted c.loop-bucket.bucket-index (map bucket_seen c.args.buckets.now) (omega (arith, c.loop-bucket-test.false, length-map c.args.buckets.now bucket_seen))
