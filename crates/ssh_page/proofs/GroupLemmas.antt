-- Each row is in the list once, with all rows of its key.
use Rattle.std.proofs.Common.{◌≡◌, ◌∙◌, ◌+◌, ◌<◌, Bool, true, false, not, ◌&&◌, cond, List, [], ◌∷◌, ◌++◌, map, take, drop, filter, length, arith, refl, ap, sym, subst, subst₂, true≢false, add-one, append_assoc, is_eq, is_lt, nat_cmp, Ordering, Less, Equal, Greater, IsPermutation}
use Rattle.std.specs.Prelude.{bytes_eq}
use Rattle.std.specs.Cmp.{IsStrictWeakOrder}
use Rattle.std.specs.Cmp.Lexicographic.{bytes_decides, nat_list_cmp_total, slice_cmp}
use Rattle.std.specs.List.{AllByRecursion, flat_map}
use Rattle.std.specs.List.Sorted.{ties}
use Rattle.std.specs.Ordering.{ordering_reverse}
use Rattle.std.proofs.lemmas.List.Sorted.{IsPermutation-append_left, IsPermutation-append_right, IsPermutation-append_comm, IsPermutation-refl, IsPermutation-trans, ranks_by}
use Rattle.std.proofs.lemmas.Map.Text.{is_eq-slice_cmp}
use Rattle.ssh_page.specs.Buckets.{joined}
use Rattle.ssh_page.specs.KeyGroups.{AreOfOneKey, KeyGroupSeen, alike, by_key, files_before, first_key, group_of, groups_in, has_key, key_before, grouped_rows, put_first, runs}
use Rattle.ssh_page.specs.KeyRows.{KeyRowSeen}
use Rattle.ssh_page.specs.Sorting.{in_order, put_before}
use Rattle.ssh_page.proofs.RunLemmas.{run-first}
use Rattle.ssh_page.proofs.StableLemmas.{NoneBefore, Rises, rises-in_order, ties-in_order}

pub key-order : IsStrictWeakOrder key_before
key-order = ranks_by nat_list_cmp_total (λ (r : KeyRowSeen). r.key)

-- ---- the same rows, in another order

-- what is in front of a list and what is behind may change places
changed-places : {X : Type 0} (a b c : List X) → IsPermutation (a ++ (b ++ c)) (b ++ (a ++ c))
changed-places a b c =
    subst₂ IsPermutation (append_assoc a b c) (append_assoc b a c) (IsPermutation-append_left c (a ++ b) (b ++ a) (IsPermutation-append_comm a b))

put-moves : {X Y : Type 0} (lt : X → X → Bool) (f : X → List Y) (x : X) (ys : List X) → IsPermutation (f x ++ flat_map f ys) (flat_map f (put_before lt x ys))
put-moves lt f x [] = IsPermutation-refl (f x ++ [])
put-moves lt f x (y ∷ ys) = go (lt y x) (put-moves lt f x ys)
  where
    go : (b : Bool) → IsPermutation (f x ++ flat_map f ys) (flat_map f (put_before lt x ys))
        → IsPermutation (f x ++ (f y ++ flat_map f ys)) (flat_map f (cond b (y ∷ put_before lt x ys) (x ∷ y ∷ ys)))
    go true h =
        IsPermutation-trans (f x ++ (f y ++ flat_map f ys)) (f y ++ (f x ++ flat_map f ys)) (f y ++ flat_map f (put_before lt x ys))
        (changed-places (f x) (f y) (flat_map f ys)) (IsPermutation-append_right (f y) (f x ++ flat_map f ys) (flat_map f (put_before lt x ys)) h)
    go false h = IsPermutation-refl (f x ++ (f y ++ flat_map f ys))

order-moves : {X Y : Type 0} (lt : X → X → Bool) (f : X → List Y) (xs : List X) → IsPermutation (flat_map f xs) (flat_map f (in_order lt xs))
order-moves lt f [] = IsPermutation-refl []
order-moves lt f (x ∷ xs) =
    IsPermutation-trans (f x ++ flat_map f xs) (f x ++ flat_map f (in_order lt xs)) (flat_map f (put_before lt x (in_order lt xs)))
    (IsPermutation-append_right (f x) (flat_map f xs) (flat_map f (in_order lt xs)) (order-moves lt f xs)) (put-moves lt f x (in_order lt xs))

put-joined : (r : KeyRowSeen) (lists : List (List KeyRowSeen)) → joined (put_first r lists) ≡ r ∷ joined lists
put-joined r [] = refl
put-joined r ([] ∷ lists) = refl
put-joined r ((s ∷ rows) ∷ lists) = go (bytes_eq s.key r.key)
  where
    go : (b : Bool) → joined (cond b ((r ∷ s ∷ rows) ∷ lists) ((r ∷ []) ∷ (s ∷ rows) ∷ lists)) ≡ r ∷ s ∷ (rows ++ joined lists)
    go true = refl
    go false = refl

runs-joined : (rows : List KeyRowSeen) → joined (runs rows) ≡ rows
runs-joined [] = refl
runs-joined (r ∷ rows) = put-joined r (runs rows) ∙ ap (λ l. r ∷ l) (runs-joined rows)

groups-joined : (lists : List (List KeyRowSeen)) → grouped_rows (map group_of lists) ≡ joined lists
groups-joined [] = refl
groups-joined (l ∷ lists) = ap (λ rows. l ++ rows) (groups-joined lists)

each-once : {X : Type 0} (xs : List X) → flat_map (λ x. x ∷ []) xs ≡ xs
each-once [] = refl
each-once (x ∷ xs) = ap (λ l. x ∷ l) (each-once xs)

-- each row is in the list once
pub all_listed : (rows : List KeyRowSeen) → IsPermutation rows (grouped_rows (groups_in (by_key rows)))
all_listed rows =
    let sorted = by_key rows in
    let first = subst₂ IsPermutation (each-once rows) (each-once sorted) (order-moves key_before (λ r. r ∷ []) rows) in
    let groups = map group_of (runs sorted) in
    let same : grouped_rows groups ≡ sorted = groups-joined (runs sorted) ∙ runs-joined sorted in
    IsPermutation-trans rows sorted (grouped_rows (groups_in sorted)) first
    (subst (λ l. IsPermutation l (grouped_rows (groups_in sorted))) same (order-moves files_before (λ (g : KeyGroupSeen). g.rows) groups))

-- ---- the rows of a key

-- two rows tie where they have one key
pub tie-key : (w r : KeyRowSeen) → ties key_before w r ≡ has_key w.key r
tie-key w r =
    let back : slice_cmp nat_cmp r.key w.key ≡ ordering_reverse (slice_cmp nat_cmp w.key r.key) = nat_list_cmp_total.antisymm r.key w.key in
    ap (λ o. not (is_lt (slice_cmp nat_cmp w.key r.key)) && not (is_lt o)) back ∙ by (slice_cmp nat_cmp w.key r.key) ∙ ap is_eq (sym back) ∙ is_eq-slice_cmp r.key w.key
  where
    by : (o : Ordering) → (not (is_lt o) && not (is_lt (ordering_reverse o))) ≡ is_eq (ordering_reverse o)
    by Less = refl
    by Equal = refl
    by Greater = refl

pub same-filter : {X : Type 0} (p q : X → Bool) → ((x : X) → p x ≡ q x) → (xs : List X) → filter p xs ≡ filter q xs
same-filter p q h [] = refl
same-filter p q h (x ∷ xs) = ap (λ b. cond b (x ∷ filter p xs) (filter p xs)) (h x) ∙ ap (λ l. cond (q x) (x ∷ l) l) (same-filter p q h xs)

pub key-kept : (w : KeyRowSeen) (rows : List KeyRowSeen) → filter (has_key w.key) (by_key rows) ≡ filter (has_key w.key) rows
key-kept w rows =
    sym (same-filter (ties key_before w) (has_key w.key) (tie-key w) (by_key rows)) ∙ ties-in_order key_before key-order w rows
    ∙ same-filter (ties key_before w) (has_key w.key) (tie-key w) rows

-- a row that neither has the key of the next nor comes behind it comes before it
before-other : (r s : KeyRowSeen) → key_before s r ≡ false → has_key r.key s ≡ false → key_before r s ≡ true
before-other r s not-behind other = go (key_before r s) refl
  where
    go : (b : Bool) → key_before r s ≡ b → key_before r s ≡ true
    go true e = e
    go false e = absurd (true≢false (sym (ap (λ b. not b && not (key_before s r)) e ∙ ap (λ b. true && not b) not-behind) ∙ tie-key r s ∙ other))

-- behind a greater key there is no row with this key
none-of-key : (r s : KeyRowSeen) (rows : List KeyRowSeen) → key_before r s ≡ true → NoneBefore key_before s rows → filter (has_key r.key) rows ≡ []
none-of-key r s [] less none = refl
none-of-key r s (t ∷ rows) less none = go (has_key r.key t) refl (none-of-key r s rows less none.1)
  where
    go : (b : Bool) → has_key r.key t ≡ b → filter (has_key r.key) rows ≡ [] → cond b (t ∷ filter (has_key r.key) rows) (filter (has_key r.key) rows) ≡ []
    go true e h =
        let same : t.key ≡ r.key = (bytes_decides t.key r.key).0 e in
        absurd (true≢false (sym less ∙ ap (λ k. is_lt (slice_cmp nat_cmp k s.key)) (sym same) ∙ none.0))
    go false e h = h

-- the rows at the front with one key are all that have it
run-of-key : (r : KeyRowSeen) (rows : List KeyRowSeen) → NoneBefore key_before r rows → Rises key_before rows → filter (has_key r.key) rows ≡ take (alike r.key rows) rows
run-of-key r [] none up = refl
run-of-key r (s ∷ rows) none up = go (bytes_eq s.key r.key) refl (run-of-key r rows none.1 up.1)
  where
    go : (b : Bool) → bytes_eq s.key r.key ≡ b → filter (has_key r.key) rows ≡ take (alike r.key rows) rows
        → cond b (s ∷ filter (has_key r.key) rows) (filter (has_key r.key) rows) ≡ take (cond b (alike r.key rows + 1) 0) (s ∷ rows)
    go true e h = ap (λ l. s ∷ l) h ∙ ap (λ n. take n (s ∷ rows)) (sym (add-one (alike r.key rows)))
    go false e h = none-of-key r s rows (before-other r s none.0 e) up.0

-- no later list has the key of the first
abbrev Apart : List (List KeyRowSeen) → Type 0
Apart [] = Unit {0}
Apart (l ∷ lists) = AllByRecursion (λ m. bytes_eq (first_key l) (first_key m) ≡ false) lists

both-all : {X : Type 0} (P Q R : X → Type 0) → ((x : X) → P x → Q x → R x) → (xs : List X) → AllByRecursion P xs → AllByRecursion Q xs → AllByRecursion R xs
both-all P Q R h [] p q = tt
both-all P Q R h (x ∷ xs) p q = (h x p.0 q.0, both-all P Q R h xs p.1 q.1)

pub all-from : {X : Type 0} (P Q : X → Type 0) → ((x : X) → P x → Q x) → (xs : List X) → AllByRecursion P xs → AllByRecursion Q xs
all-from P Q h [] p = tt
all-from P Q h (x ∷ xs) p = (h x p.0, all-from P Q h xs p.1)

all-put : {X : Type 0} (P : X → Type 0) (lt : X → X → Bool) (x : X) (ys : List X) → P x → AllByRecursion P ys → AllByRecursion P (put_before lt x ys)
all-put P lt x [] own h = (own, tt)
all-put P lt x (y ∷ ys) own h = go (lt y x) (all-put P lt x ys own h.1)
  where
    go : (b : Bool) → AllByRecursion P (put_before lt x ys) → AllByRecursion P (cond b (y ∷ put_before lt x ys) (x ∷ y ∷ ys))
    go true more = (h.0, more)
    go false more = (own, h)

pub own-key : (r : KeyRowSeen) → has_key r.key r ≡ true
own-key r = (bytes_decides r.key r.key).1 refl

-- it keeps its rows with one more row in front that has another key
one-more : (r : KeyRowSeen) (rows m : List KeyRowSeen) → AreOfOneKey rows m → bytes_eq r.key (first_key m) ≡ false → AreOfOneKey (r ∷ rows) m
one-more r rows m h other = (h.0, h.1 ∙ ap (λ b. cond b (r ∷ filter (has_key (first_key m)) rows) (filter (has_key (first_key m)) rows)) (sym other))

-- the key of a row before the first is none of theirs
no-such-key : (r s : KeyRowSeen) (rows m : List KeyRowSeen) → filter (has_key r.key) (s ∷ rows) ≡ [] → AreOfOneKey (s ∷ rows) m → bytes_eq r.key (first_key m) ≡ false
no-such-key r s rows m none h = go (bytes_eq r.key (first_key m)) refl
  where
    go : (b : Bool) → bytes_eq r.key (first_key m) ≡ b → bytes_eq r.key (first_key m) ≡ false
    go false e = e
    go true e =
        let same : r.key ≡ first_key m = (bytes_decides r.key (first_key m)).0 e in
        let empty : m ≡ [] = h.1 ∙ ap (λ k. filter (has_key k) (s ∷ rows)) (sym same) ∙ none in
        let some : 0 < 0 = subst (λ l. 0 < length l) empty h.0 in
        absurd (omega (arith, some))

all-one-key : (rows : List KeyRowSeen) → Rises key_before rows → AllByRecursion (AreOfOneKey rows) (runs rows) × Apart (runs rows)
all-one-key [] up = (tt, tt)
all-one-key (r ∷ []) up =
    (((omega arith, ap (λ b. cond b (r ∷ []) []) (sym (own-key r))), tt), tt)
all-one-key (r ∷ s ∷ rows) up =
    let ls = runs (drop (alike s.key rows) rows) in
    let t = take (alike s.key rows) rows in
    let h = subst (λ lists. AllByRecursion (AreOfOneKey (s ∷ rows)) lists × Apart lists) (run-first s rows) (all-one-key (s ∷ rows) up.1) in
    subst (λ lists. AllByRecursion (AreOfOneKey (r ∷ s ∷ rows)) (put_first r lists) × Apart (put_first r lists)) (sym (run-first s rows)) (go (bytes_eq s.key r.key) refl t ls h)
  where
    go : (b : Bool) → bytes_eq s.key r.key ≡ b → (t : List KeyRowSeen) (ls : List (List KeyRowSeen))
        → AllByRecursion (AreOfOneKey (s ∷ rows)) ((s ∷ t) ∷ ls) × Apart ((s ∷ t) ∷ ls)
        → AllByRecursion (AreOfOneKey (r ∷ s ∷ rows)) (cond b ((r ∷ s ∷ t) ∷ ls) ((r ∷ []) ∷ (s ∷ t) ∷ ls)) × Apart (cond b ((r ∷ s ∷ t) ∷ ls) ((r ∷ []) ∷ (s ∷ t) ∷ ls))
    go true e t ls h =
        let same : s.key ≡ r.key = (bytes_decides s.key r.key).0 e in
        let apart = subst (λ k. AllByRecursion (λ m. bytes_eq k (first_key m) ≡ false) ls) same h.1 in
        let front : r ∷ s ∷ t ≡ filter (has_key r.key) (r ∷ s ∷ rows) =
        ap (λ l. r ∷ l) (h.0.0.1 ∙ ap (λ k. filter (has_key k) (s ∷ rows)) same)
        ∙ ap (λ b. cond b (r ∷ filter (has_key r.key) (s ∷ rows)) (filter (has_key r.key) (s ∷ rows))) (sym (own-key r)) in
        (((omega arith, front), both-all (AreOfOneKey (s ∷ rows)) (λ m. bytes_eq r.key (first_key m) ≡ false) (AreOfOneKey (r ∷ s ∷ rows)) (λ m own other. one-more r (s ∷ rows) m own other) ls h.0.1 apart), apart)
    go false e t ls h =
        let none : filter (has_key r.key) (s ∷ rows) ≡ [] =
        ap (λ b. cond b (s ∷ filter (has_key r.key) rows) (filter (has_key r.key) rows)) e ∙ none-of-key r s rows (before-other r s up.0.0 e) up.1.0 in
        let front : r ∷ [] ≡ filter (has_key r.key) (r ∷ s ∷ rows) =
        ap (λ l. r ∷ l) (sym none)
        ∙ ap (λ b. cond b (r ∷ filter (has_key r.key) (s ∷ rows)) (filter (has_key r.key) (s ∷ rows))) (sym (own-key r)) in
        let apart = all-from (AreOfOneKey (s ∷ rows)) (λ m. bytes_eq r.key (first_key m) ≡ false) (λ m own. no-such-key r s rows m none own) ((s ∷ t) ∷ ls) h.0 in
        (((omega arith, front), both-all (AreOfOneKey (s ∷ rows)) (λ m. bytes_eq r.key (first_key m) ≡ false) (AreOfOneKey (r ∷ s ∷ rows)) (λ m own other. one-more r (s ∷ rows) m own other) ((s ∷ t) ∷ ls) h.0 apart), apart)

-- ---- in the list

pub all-ordered : {X : Type 0} (P : X → Type 0) (lt : X → X → Bool) (xs : List X) → AllByRecursion P xs → AllByRecursion P (in_order lt xs)
all-ordered P lt [] h = tt
all-ordered P lt (x ∷ xs) h = all-put P lt x (in_order lt xs) h.0 (all-ordered P lt xs h.1)

all-groups : (rows : List KeyRowSeen) (lists : List (List KeyRowSeen)) → AllByRecursion (AreOfOneKey rows) lists → AllByRecursion (λ (g : KeyGroupSeen). AreOfOneKey rows g.rows) (map group_of lists)
all-groups rows [] h = tt
all-groups rows (l ∷ lists) h = (h.0, all-groups rows lists h.1)

-- of all rows, instead of those in order
as-they-were : (rows m : List KeyRowSeen) → AreOfOneKey (by_key rows) m → AreOfOneKey rows m
as-they-were rows [] h = absurd (omega (arith, h.0))
as-they-were rows (r ∷ m) h = (h.0, h.1 ∙ key-kept r rows)

pub all_together : (rows : List KeyRowSeen) → AllByRecursion (λ (g : KeyGroupSeen). AreOfOneKey rows g.rows) (groups_in (by_key rows))
all_together rows =
    let sorted = by_key rows in
    let lists = (all-one-key sorted (rises-in_order key_before key-order rows)).0 in
    all-ordered (λ (g : KeyGroupSeen). AreOfOneKey rows g.rows) files_before (map group_of (runs sorted))
    (all-groups rows (runs sorted) (all-from (AreOfOneKey sorted) (AreOfOneKey rows) (as-they-were rows) (runs sorted) lists))
