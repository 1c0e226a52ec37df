use Rattle.std.proofs.Common.{rules}
use Rattle.ssh_page.specs.KeyRows.{key_row}
use Rattle.ssh_page.proofs.BucketLemmas.{row_put}
use Rattle.ssh_page.proofs.key_buckets.push_row.Goals as goal

pub returns-in_ok-push-in-Some-clause-pushed : goal.returns-in_ok-push-in-Some-clause-pushed
returns-in_ok-push-in-Some-clause-pushed c =
    row_put c.from.result c.args.buckets.now.items c.index_mut.result.now c.push.new.self c.in-Some.row (key_row c.args.row.now) (search rules) c.from.ensures
    c.index_mut.ensures.value c.in_ok-push-in-Some.ensures.items c.in-Some.ensures
