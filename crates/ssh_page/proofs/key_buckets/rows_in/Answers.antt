use Rattle.std.proofs.Common.{◌∙◌, ◌++◌, ap, length, map, refl, subst, sym}
use Rattle.std.proofs.lemmas.List.{length-map}
use Rattle.ssh_page.specs.Buckets.{ArePlaced, AreSameByKey, bucket_seen, joined}
use Rattle.ssh_page.specs.KeyRows.{key_row, rows_in}
use Rattle.ssh_page.proofs.BucketLemmas.{empty_placed, found_placed, rows_all, rows_behind}
use Rattle.ssh_page.proofs.key_buckets.rows_in.Goals as goal

pub loop-row-init : goal.loop-row-init
loop-row-init c =
    let all = rows_in c.args.sections.now in (
      sym (length-map c.in_ok-buckets.buckets.items bucket_seen) ∙ ap length c.in_ok-buckets.ensures,
      subst (ArePlaced 0) (sym c.in_ok-buckets.ensures) (empty_placed 256 0),
      subst (λ l. AreSameByKey (joined l ++ all) all) (sym c.in_ok-buckets.ensures) (λ key. refl),
    )

pub loop-row-preserved : goal.loop-row-preserved
loop-row-preserved c =
    let row = c.in-Some.row.now in
    let buckets = map bucket_seen c.loop-row.buckets.items in
    let all = rows_in c.args.sections.now in (
      c.in_ok-push_row.ensures.long,
      subst (ArePlaced 0) (sym c.in_ok-push_row.ensures.pushed) (found_placed (key_row row) buckets c.loop-row.invariant.1),
      subst (λ l. AreSameByKey (joined l ++ rows_in row) all) (sym c.in_ok-push_row.ensures.pushed)
          (rows_behind c.loop-row.rest.now row buckets all c.in-Some.ensures.behind (length-map c.loop-row.buckets.items bucket_seen ∙ c.loop-row.invariant.0) c.in_ok-push_row.ensures.within
          c.loop-row.invariant.1 c.loop-row.invariant.2),
    )

pub returns-clause-same : goal.returns-clause-same
returns-clause-same c =
    rows_all c.loop-row.rest.now (map bucket_seen c.loop-row.buckets.items) (rows_in c.args.sections.now) c.in_default.ensures.behind c.loop-row.invariant.2
