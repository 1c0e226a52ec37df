use Rattle.std.proofs.Common.{◌≡◌, ◌++◌, drop, map}
use Rattle.ssh_page.specs.Buckets.{bucket_seen, joined}
use Rattle.ssh_page.specs.KeyGroups.{group_of, group_seen, runs}
use Rattle.ssh_page.proofs.key_groups.runs.Given as goal

abbrev pub invariant-loop-bucket : goal.invariant-loop-bucket
invariant-loop-bucket l =
    map group_seen l.groups.items ++ map group_of (joined (map runs (map bucket_seen (drop l.bucket-index l.buckets))))
    ≡ map group_of (joined (map runs (map bucket_seen l.buckets)))
