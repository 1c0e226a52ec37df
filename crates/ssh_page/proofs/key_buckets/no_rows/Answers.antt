use Rattle.std.proofs.Common.{◌∙◌, ◌∷◌, [], ◌++◌, ap, ap₂, map}
use Rattle.std.proofs.lemmas.List.{map-append}
use Rattle.ssh_page.specs.Buckets.{bucket_seen}
use Rattle.ssh_page.specs.KeyRows.{row_seen}
use Rattle.ssh_page.proofs.BucketLemmas.{one_more_empty}
use Rattle.ssh_page.proofs.key_buckets.no_rows.Goals as goal

pub loop-preserved : goal.loop-preserved
loop-preserved c =
    ap (map bucket_seen) c.in_ok-push.ensures.items
    ∙ map-append bucket_seen c.loop.buckets.items (c.new.result ∷ [])
    ∙ ap₂ (λ a b. a ++ b ∷ []) c.loop.invariant (ap (map row_seen) c.new.ensures.items)
    ∙ one_more_empty c.loop.counter
