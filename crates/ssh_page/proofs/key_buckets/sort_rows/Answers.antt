use Rattle.std.proofs.Common.{ap, rules}
use Rattle.std.specs.Cmp.Lexicographic.{slice_cmp}
use Rattle.std.specs.Ordering.{is_lt, nat_cmp}
use Rattle.std.proofs.lemmas.List.Sorted.{answers_always}
use Rattle.ssh_page.specs.declared.key_rows.KeyRow.{KeyRow}
use Rattle.ssh_page.specs.KeyGroups.{key_start}
use Rattle.ssh_page.proofs.RunLemmas.{key-order, twice_sorted}
use Rattle.ssh_page.proofs.key_buckets.sort_rows.Goals as goal

pub returns : goal.returns
returns c =
    twice_sorted c.args.rows.now.items c.sort_by_cached_key.new.self.items c.sort_by.new.self.items
    (c.sort_by_cached_key.ensures.stable (λ (r : KeyRow). key_start r.key) (answers_always _ _ _ (λ f a r g h. search rules)))
    (c.in_ok-sort_by.ensures.sorted (λ (r s : KeyRow). is_lt (slice_cmp nat_cmp r.key s.key)) key-order (answers_always _ _ _ (λ f a r g h. ap is_lt (search rules))))
    (c.sort_by.ensures.stable (λ (r s : KeyRow). is_lt (slice_cmp nat_cmp r.key s.key)) key-order (answers_always _ _ _ (λ f a r g h. ap is_lt (search rules))))
