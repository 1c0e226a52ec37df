-- Rows in the order of keys, cut where the key changes.
use Rattle.std.proofs.Common.{◌≡◌, ◌∙◌, ◌+◌, ◌-◌, ◌^◌, ◌<◌, ℕ, Bool, true, false, not, ◌&&◌, cond, List, [], ◌∷◌, ◌++◌, map, length, take, drop, Ordering, Less, Equal, Greater, refl, ap, sym, subst, true≢false, arith, add-one, append_assoc, min, Option, Some, None, MatchOption, option_copied, is_lt, nat_cmp, Bor, IsSortedByKey, take_all, le_refl, eq-eqb}
use Rattle.std.specs.Prelude.{bytes_eq}
use Rattle.std.specs.Cmp.{IsStrictWeakOrder, nat_cmp_total}
use Rattle.std.specs.Cmp.Lexicographic.{bytes_decides, nat_list_cmp_total, slice_cmp, texts_ties}
use Rattle.std.specs.List.Sorted.{IsStableByKey, ties}
use Rattle.std.specs.Ordering.{is_eq, ordering_reverse}
use Rattle.std.specs.Array.{IsFirstChunk}
use Rattle.std.proofs.lemmas.List.{drop-map, length-map, map-append, take-map, take_min}
use Rattle.std.proofs.lemmas.List.Sorted.{ranks_by}
use Rattle.ssh_page.specs.declared.key_groups.KeyGroup.{KeyGroup}
use Rattle.ssh_page.specs.declared.key_rows.KeyRow.{KeyRow}
use Rattle.ssh_page.specs.KeyGroups.{alike, by_key, files_before, files_of, group_of, group_seen, key_before, key_start, put_first, run_length, runs}
use Rattle.ssh_page.specs.KeyRows.{KeyRowSeen, fingerprint, row_seen}
use Rattle.ssh_page.specs.Sorting.{in_order}
use Rattle.ssh_page.proofs.StableLemmas.{in_order-map, sorted_is, stable_after, tie-itself}

-- the first rows with one key, and the others
pub run-first : (r : KeyRowSeen) (rows : List KeyRowSeen)
    → runs (r ∷ rows) ≡ (r ∷ take (alike r.key rows) rows) ∷ runs (drop (alike r.key rows) rows)
run-first r [] = refl
run-first r (s ∷ rows) = ap (put_first r) (run-first s rows) ∙ go (bytes_eq s.key r.key) refl (run-first s rows)
  where
    go : (b : Bool) → bytes_eq s.key r.key ≡ b
        → runs (s ∷ rows) ≡ (s ∷ take (alike s.key rows) rows) ∷ runs (drop (alike s.key rows) rows)
        → cond b ((r ∷ s ∷ take (alike s.key rows) rows) ∷ runs (drop (alike s.key rows) rows))
        ((r ∷ []) ∷ (s ∷ take (alike s.key rows) rows) ∷ runs (drop (alike s.key rows) rows))
        ≡ (r ∷ take (cond b (alike r.key rows + 1) 0) (s ∷ rows)) ∷ runs (drop (cond b (alike r.key rows + 1) 0) (s ∷ rows))
    go true e h =
        let same : s.key ≡ r.key = (bytes_decides s.key r.key).0 e in
        ap (λ k. (r ∷ s ∷ take (alike k rows) rows) ∷ runs (drop (alike k rows) rows)) same
        ∙ ap (λ n. (r ∷ take n (s ∷ rows)) ∷ runs (drop n (s ∷ rows))) (sym (add-one (alike r.key rows)))
    go false e h = ap (λ l. (r ∷ []) ∷ l) (sym h)

pub run-split : (rows : List KeyRowSeen) → 0 < length rows → runs rows ≡ take (run_length rows) rows ∷ runs (drop (run_length rows) rows)
run-split [] h = absurd (omega (arith, h))
run-split (r ∷ rows) h = run-first r rows ∙ ap (λ n. take n (r ∷ rows) ∷ runs (drop n (r ∷ rows))) (sym (add-one (alike r.key rows)))

-- one more key: the rows at the front, and what is behind them
pub run_pushed : (groups more : List KeyGroup) (rows : List KeyRow) (g : KeyGroup) (count : ℕ) → 0 < length rows → count ≡ run_length (map row_seen rows)
    → g.rows.now ≡ take count rows → g.files ≡ files_of (map row_seen g.rows.now) → more ≡ groups ++ g ∷ []
    → map group_seen more ++ map group_of (runs (map row_seen (drop count rows))) ≡ map group_seen groups ++ map group_of (runs (map row_seen rows))
run_pushed groups more rows g count some is front files pushed =
    let seen = map row_seen rows in
    let long : 0 < length seen = subst (λ n. 0 < n) (sym (length-map rows row_seen)) some in
    let own : map row_seen g.rows.now ≡ take (run_length seen) seen = ap (map row_seen) front ∙ sym (take-map row_seen count rows) ∙ ap (λ n. take n seen) is in
    let others : map row_seen (drop count rows) ≡ drop (run_length seen) seen = sym (drop-map row_seen count rows) ∙ ap (λ n. drop n seen) is in
    let one : group_seen g ≡ group_of (take (run_length seen) seen) =
    ap (λ n. record { rows = map row_seen g.rows.now; files = n }) files ∙ ap group_of own in
    let behind = map group_of (runs (map row_seen (drop count rows))) in
    ap (λ l. map group_seen l ++ behind) pushed
    ∙ ap (λ l. l ++ behind) (map-append group_seen groups (g ∷ []))
    ∙ append_assoc (map group_seen groups) (group_seen g ∷ []) behind
    ∙ ap (λ l. map group_seen groups ++ l)
    (ap (λ x. x ∷ behind) one ∙ ap (λ l. group_of (take (run_length seen) seen) ∷ map group_of (runs l)) others ∙ ap (map group_of) (sym (run-split seen long)))

-- ---- in order

pub key-order : IsStrictWeakOrder (λ (r s : KeyRow). is_lt (slice_cmp nat_cmp r.key s.key))
key-order = ranks_by nat_list_cmp_total (λ (r : KeyRow). r.key)

sorted_rows : (rows sorted : List KeyRow) → IsSortedByKey (λ (r : KeyRow). r.key) (slice_cmp nat_cmp) sorted → IsStableByKey (λ (r : KeyRow). r.key) (slice_cmp nat_cmp) rows sorted
    → map row_seen sorted ≡ by_key (map row_seen rows)
sorted_rows rows sorted up stable =
    ap (map row_seen) (sorted_is (λ (r s : KeyRow). is_lt (slice_cmp nat_cmp r.key s.key)) key-order rows sorted up stable)
    ∙ in_order-map (λ (r s : KeyRow). is_lt (slice_cmp nat_cmp r.key s.key)) key_before row_seen (λ r s. refl) rows

start-order : IsStrictWeakOrder (λ (r s : KeyRow). is_lt (nat_cmp (key_start r.key) (key_start s.key)))
start-order = ranks_by nat_cmp_total (λ (r : KeyRow). key_start r.key)

-- of two keys neither of which is before the other
same-key : (k l : List ℕ) → (not (is_lt (slice_cmp nat_cmp k l)) && not (is_lt (slice_cmp nat_cmp l k))) ≡ true → k ≡ l
same-key k l e = (bytes_decides k l).0 (texts_ties k l ∙ go (slice_cmp nat_cmp k l) (slice_cmp nat_cmp l k) (nat_list_cmp_total.antisymm l k) e)
  where
    go : (o p : Ordering) → p ≡ ordering_reverse o → (not (is_lt o) && not (is_lt p)) ≡ true → is_eq o ≡ true
    go Less p h e = absurd (true≢false (sym e))
    go Equal p h e = refl
    go Greater p h e = absurd (true≢false (sym e ∙ ap (λ q. not (is_lt q)) h))

-- rows with one key have one start
same-start : (w x : KeyRow) → ties (λ (r s : KeyRow). is_lt (slice_cmp nat_cmp r.key s.key)) w x ≡ true
    → ties (λ (r s : KeyRow). is_lt (nat_cmp (key_start r.key) (key_start s.key))) w x ≡ true
same-start w x e =
    sym (ap (λ k. not (is_lt (nat_cmp (key_start w.key) (key_start k))) && not (is_lt (nat_cmp (key_start k) (key_start w.key)))) (same-key w.key x.key e))
    ∙ tie-itself (λ (r s : KeyRow). is_lt (nat_cmp (key_start r.key) (key_start s.key))) start-order w

-- a stable sort by the starts of keys, and then one by the keys
pub twice_sorted : (rows started sorted : List KeyRow) → IsStableByKey (λ (r : KeyRow). key_start r.key) nat_cmp rows started
    → IsSortedByKey (λ (r : KeyRow). r.key) (slice_cmp nat_cmp) sorted → IsStableByKey (λ (r : KeyRow). r.key) (slice_cmp nat_cmp) started sorted
    → map row_seen sorted ≡ by_key (map row_seen rows)
twice_sorted rows started sorted first up second =
    sorted_rows rows sorted up
    (stable_after (λ (r s : KeyRow). is_lt (slice_cmp nat_cmp r.key s.key)) (λ (r s : KeyRow). is_lt (nat_cmp (key_start r.key) (key_start s.key)))
    same-start rows started sorted first second)

files-order : IsStrictWeakOrder (λ (g h : KeyGroup). is_lt (nat_cmp ((2 ^ 64 - 1) - g.files) ((2 ^ 64 - 1) - h.files)))
files-order = ranks_by nat_cmp_total (λ (g : KeyGroup). (2 ^ 64 - 1) - g.files)

pub sorted_groups : (groups sorted : List KeyGroup) → IsSortedByKey (λ (g : KeyGroup). (2 ^ 64 - 1) - g.files) nat_cmp sorted
    → IsStableByKey (λ (g : KeyGroup). (2 ^ 64 - 1) - g.files) nat_cmp groups sorted → map group_seen sorted ≡ in_order files_before (map group_seen groups)
sorted_groups groups sorted up stable =
    ap (map group_seen) (sorted_is (λ (g h : KeyGroup). is_lt (nat_cmp ((2 ^ 64 - 1) - g.files) ((2 ^ 64 - 1) - h.files))) files-order groups sorted up stable)
    ∙ in_order-map (λ (g h : KeyGroup). is_lt (nat_cmp ((2 ^ 64 - 1) - g.files) ((2 ^ 64 - 1) - h.files))) files_before group_seen (λ g h. refl) groups

-- ---- a fingerprint

pub chunk_is : (o : Option (Bor (List ℕ))) (text : List ℕ) → length text ≡ 43 → MatchOption o (length text < 43) (λ c. IsFirstChunk text c.now 43) → option_copied o ≡ fingerprint text
chunk_is None text long less = absurd (omega (arith, long, less))
chunk_is (Some c) text long is =
    ap (λ t. Some t) (is.same ∙ ap (λ n. take n text) (sym long) ∙ take_all (length text) text (le_refl (length text)))
    ∙ ap (λ b. cond b (Some text) None) (sym (eq-eqb (length text) 43 long))

-- ---- how many

pub same_number : (groups : List KeyGroup) → length (map group_seen groups) ≡ length groups
same_number groups = length-map groups group_seen

pub first_seen : (n : ℕ) (groups : List KeyGroup) → map group_seen (take (min n (length groups)) groups) ≡ take n (map group_seen groups)
first_seen n groups = ap (map group_seen) (take_min n groups) ∙ sym (take-map group_seen n groups)
