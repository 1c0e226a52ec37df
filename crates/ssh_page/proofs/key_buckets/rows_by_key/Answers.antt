use Rattle.std.proofs.Common.{◌∙◌, ◌≡◌, ◌++◌, ap, drop, length, map, rules, sym, take}
use Rattle.ssh_page.specs.Buckets.{bucket_seen, joined}
use Rattle.ssh_page.specs.KeyGroups.{by_key, runs}
use Rattle.ssh_page.specs.KeyRows.{rows_in}
use Rattle.ssh_page.proofs.BucketLemmas.{few_rows, runs_joined, sorted_joined, written_back}
use Rattle.ssh_page.proofs.key_buckets.rows_by_key.Goals as goal

-- the rows of each bucket as they are behind the sort
sorted : (c : goal.In_ok-sort_buckets) → map bucket_seen c.sort_buckets.new.buckets ≡ map by_key (map bucket_seen c.in_ok-buckets.buckets.items)
sorted c = c.in_ok-sort_buckets.ensures ∙ ap (λ l. map by_key (map bucket_seen l)) c.deref_mut.ensures.value

in-order : (c : goal.In_ok-sort_buckets) → joined (map bucket_seen c.sort_buckets.new.buckets) ≡ by_key (rows_in c.args.sections.now)
in-order c =
    ap joined (sorted c)
    ∙ sorted_joined (map bucket_seen c.in_ok-buckets.buckets.items) (rows_in c.args.sections.now) c.in_ok-buckets.ensures.placed c.in_ok-buckets.ensures.same

-- what the sort lent is all that the buckets are
returned : (c : goal.In_ok-sort_buckets)
    → take c.in_ok-buckets.buckets.len (c.sort_buckets.new.buckets ++ drop (length c.sort_buckets.new.buckets) c.in_ok-buckets.buckets.items) ≡ c.sort_buckets.new.buckets
returned c =
    written_back c.in_ok-buckets.buckets.len c.in_ok-buckets.buckets.items c.sort_buckets.new.buckets (sym c.in_ok-buckets.buckets.ok.0)
    (c.sort_buckets.auto.buckets ∙ c.deref_mut.ensures.len)

pub returns-clause-in_order : goal.returns-clause-in_order
returns-clause-in_order c = ap (λ l. joined (map bucket_seen l)) (returned c) ∙ in-order c

pub returns-clause-apart : goal.returns-clause-apart
returns-clause-apart c =
    ap (λ l. joined (map runs (map bucket_seen l))) (returned c)
    ∙ ap (λ l. joined (map runs l)) (sorted c)
    ∙ runs_joined 0 (map bucket_seen c.in_ok-buckets.buckets.items) c.in_ok-buckets.ensures.placed
    ∙ ap runs (ap joined (sym (sorted c)) ∙ in-order c)

pub returns-clause-few : goal.returns-clause-few
returns-clause-few c = few_rows c.args.sections.now _ (search rules) (ap (λ l. joined (map bucket_seen l)) (returned c) ∙ in-order c)
