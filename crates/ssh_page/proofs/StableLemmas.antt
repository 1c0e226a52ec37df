-- A stable sort gives one list: that of `in_order`.
use Rattle.std.proofs.Common.{◌≡◌, ◌∙◌, ◌<◌, ◌≤◌, ℕ, suc, Bool, true, false, not, ◌&&◌, cond, List, [], ◌∷◌, map, length, get_or, filter, refl, ap, sym, subst, true≢false, arith, IsSortedBy}
use Rattle.std.specs.Cmp.{IsStrictWeakOrder}
use Rattle.std.specs.List.Sorted.{IsStableBy, ties}
use Rattle.std.proofs.lemmas.List.Sorted.{sorted_far}
use Rattle.ssh_page.specs.Sorting.{in_order, put_before}

-- none of these comes before x
abbrev pub NoneBefore : {X : Type 0} → (X → X → Bool) → X → List X → Type 0
NoneBefore lt x [] = Unit {0}
NoneBefore lt x (y ∷ ys) = (lt y x ≡ false) × NoneBefore lt x ys

-- none comes before one that stands in front of it
abbrev pub Rises : {X : Type 0} → (X → X → Bool) → List X → Type 0
Rises lt [] = Unit {0}
Rises lt (x ∷ xs) = NoneBefore lt x xs × Rises lt xs

-- ---- lists

abbrev tail_of : {X : Type 0} → List X → List X
tail_of [] = []
tail_of (x ∷ xs) = xs

same-tail : {X : Type 0} (x y : X) (xs ys : List X) → x ∷ xs ≡ y ∷ ys → xs ≡ ys
same-tail x y xs ys e = ap tail_of e

same-head : {X : Type 0} (x y : X) (xs ys : List X) → x ∷ xs ≡ y ∷ ys → x ≡ y
same-head x y xs ys e = ap (λ l. get_or l 0 x) e

abbrev has_first : {X : Type 0} → List X → Bool
has_first [] = false
has_first (x ∷ xs) = true

no-first : {X : Type 0} (x : X) (xs : List X) → [] ≡ x ∷ xs → true ≡ false
no-first x xs e = sym (ap has_first e)

-- ---- orders

not-before-itself : {X : Type 0} (lt : X → X → Bool) → IsStrictWeakOrder lt → (x : X) → lt x x ≡ false
not-before-itself lt o x = go (lt x x) refl
  where
    go : (b : Bool) → lt x x ≡ b → lt x x ≡ false
    go true e = o.one_way x x e
    go false e = e

pub tie-itself : {X : Type 0} (lt : X → X → Bool) → IsStrictWeakOrder lt → (x : X) → ties lt x x ≡ true
tie-itself lt o x = let no = not-before-itself lt o x in ap (λ b. not b && not b) no

none-by : {X : Type 0} (lt : X → X → Bool) (x : X) (ys : List X) → ((k : ℕ) (d : X) → k < length ys → lt (get_or ys k d) x ≡ false) → NoneBefore lt x ys
none-by lt x [] h = tt
none-by lt x (y ∷ ys) h = (h 0 y (omega arith), none-by lt x ys (λ k d l. h (suc k) d (omega (arith, l))))

rises-by : {X : Type 0} (lt : X → X → Bool) (xs : List X) → ((i j : ℕ) (d : X) → i ≤ j → j < length xs → lt (get_or xs j d) (get_or xs i d) ≡ false) → Rises lt xs
rises-by lt [] h = tt
rises-by lt (x ∷ xs) h =
    (none-by lt x xs (λ k d l. h 0 (suc k) d (omega arith) (omega (arith, l))), rises-by lt xs (λ i j d l m. h (suc i) (suc j) d (omega (arith, l)) (omega (arith, m))))

-- ---- two lists that rise

-- the first of those that a test keeps is one of them
first-kept : {X : Type 0} (lt : X → X → Bool) (p : X → Bool) (x y : X) (zs rest : List X) → filter p zs ≡ y ∷ rest → NoneBefore lt x zs → lt y x ≡ false
first-kept lt p x y [] rest e none = absurd (true≢false (no-first y rest e))
first-kept lt p x y (z ∷ zs) rest e none = go (p z) e (λ f. first-kept lt p x y zs rest f none.1)
  where
    go : (b : Bool) → cond b (z ∷ filter p zs) (filter p zs) ≡ y ∷ rest → (filter p zs ≡ y ∷ rest → lt y x ≡ false) → lt y x ≡ false
    go true e h = subst (λ w. lt w x ≡ false) (same-head z y (filter p zs) rest e) none.0
    go false e h = h e

-- if what ties with x is the same in both with x in front, it is the same behind it
same-behind : {X : Type 0} (p : X → Bool) (x : X) (ys zs : List X) → filter p (x ∷ ys) ≡ filter p (x ∷ zs) → filter p ys ≡ filter p zs
same-behind p x ys zs e = go (p x) e
  where
    go : (b : Bool) → cond b (x ∷ filter p ys) (filter p ys) ≡ cond b (x ∷ filter p zs) (filter p zs) → filter p ys ≡ filter p zs
    go true e = same-tail x x (filter p ys) (filter p zs) e
    go false e = e

-- the first element of each ties with that of the other
firsts-tie : {X : Type 0} (lt : X → X → Bool) → IsStrictWeakOrder lt → (y z : X) (ys zs : List X) → NoneBefore lt y ys → NoneBefore lt z zs
    → ((x : X) → filter (ties lt x) (y ∷ ys) ≡ filter (ties lt x) (z ∷ zs)) → ties lt y z ≡ true
firsts-tie lt o y z ys zs first second same = go (ties lt y z) refl
  where
    from-second : ties lt y z ≡ false → lt y z ≡ false
    from-second e =
        let own : cond (ties lt y y) (y ∷ filter (ties lt y) ys) (filter (ties lt y) ys) ≡ y ∷ filter (ties lt y) ys = ap (λ b. cond b (y ∷ filter (ties lt y) ys) (filter (ties lt y) ys)) (tie-itself lt o y) in
        let other : cond (ties lt y z) (z ∷ filter (ties lt y) zs) (filter (ties lt y) zs) ≡ filter (ties lt y) zs = ap (λ b. cond b (z ∷ filter (ties lt y) zs) (filter (ties lt y) zs)) e in
        first-kept lt (ties lt y) z y zs (filter (ties lt y) ys) (sym other ∙ sym (same y) ∙ own) second

    from-first : ties lt z y ≡ false → lt z y ≡ false
    from-first e =
        let own : cond (ties lt z z) (z ∷ filter (ties lt z) zs) (filter (ties lt z) zs) ≡ z ∷ filter (ties lt z) zs = ap (λ b. cond b (z ∷ filter (ties lt z) zs) (filter (ties lt z) zs)) (tie-itself lt o z) in
        let other : cond (ties lt z y) (y ∷ filter (ties lt z) ys) (filter (ties lt z) ys) ≡ filter (ties lt z) ys = ap (λ b. cond b (y ∷ filter (ties lt z) ys) (filter (ties lt z) ys)) e in
        first-kept lt (ties lt z) y z ys (filter (ties lt z) zs) (sym other ∙ same z ∙ own) first

    by : (a b : Bool) → (not a && not b) ≡ false → ((not a && not b) ≡ false → a ≡ false) → ((not b && not a) ≡ false → b ≡ false) → false ≡ true
    by true b e h k = sym (h refl)
    by false true e h k = sym (k refl)
    by false false e h k = sym e

    go : (t : Bool) → ties lt y z ≡ t → ties lt y z ≡ true
    go true e = e
    go false e = e ∙ by (lt y z) (lt z y) e from-second from-first

-- two lists that rise are the same, if what ties with an element is the same in both
pub unique : {X : Type 0} (lt : X → X → Bool) → IsStrictWeakOrder lt → (ys zs : List X) → Rises lt ys → Rises lt zs
    → ((x : X) → filter (ties lt x) ys ≡ filter (ties lt x) zs) → ys ≡ zs
unique lt o [] [] first second same = refl
unique lt o [] (z ∷ zs) first second same =
    let own = ap (λ b. cond b (z ∷ filter (ties lt z) zs) (filter (ties lt z) zs)) (tie-itself lt o z) in
    absurd (true≢false (no-first z (filter (ties lt z) zs) (same z ∙ own)))
unique lt o (y ∷ ys) [] first second same =
    let own = ap (λ b. cond b (y ∷ filter (ties lt y) ys) (filter (ties lt y) ys)) (tie-itself lt o y) in
    absurd (true≢false (no-first y (filter (ties lt y) ys) (sym (same y) ∙ own)))
unique {X} lt o (y ∷ ys) (z ∷ zs) first second same =
    let own : cond (ties lt y y) (y ∷ filter (ties lt y) ys) (filter (ties lt y) ys) ≡ y ∷ filter (ties lt y) ys = ap (λ b. cond b (y ∷ filter (ties lt y) ys) (filter (ties lt y) ys)) (tie-itself lt o y) in
    let other : cond (ties lt y z) (z ∷ filter (ties lt y) zs) (filter (ties lt y) zs) ≡ z ∷ filter (ties lt y) zs = ap (λ b. cond b (z ∷ filter (ties lt y) zs) (filter (ties lt y) zs)) (firsts-tie lt o y z ys zs first.0 second.0 same) in
    let e : y ≡ z = same-head y z (filter (ties lt y) ys) (filter (ties lt y) zs) (sym own ∙ same y ∙ other) in
    let behind = λ (x : X). same-behind (ties lt x) y ys zs (same x ∙ ap (λ w. filter (ties lt x) (w ∷ zs)) (sym e)) in
    ap (λ w. w ∷ ys) e ∙ ap (λ l. z ∷ l) (unique lt o ys zs first.1 second.1 behind)

-- ---- in order

none-put : {X : Type 0} (lt : X → X → Bool) (w x : X) (ys : List X) → NoneBefore lt w ys → lt x w ≡ false → NoneBefore lt w (put_before lt x ys)
none-put lt w x [] none e = (e, tt)
none-put lt w x (y ∷ ys) none e = go (lt y x) (none-put lt w x ys none.1 e)
  where
    go : (b : Bool) → NoneBefore lt w (put_before lt x ys) → NoneBefore lt w (cond b (y ∷ put_before lt x ys) (x ∷ y ∷ ys))
    go true h = (none.0, h)
    go false h = (e, none)

none-chain : {X : Type 0} (lt : X → X → Bool) → IsStrictWeakOrder lt → (x y : X) (ys : List X) → lt y x ≡ false → NoneBefore lt y ys → NoneBefore lt x ys
none-chain lt o x y [] e none = tt
none-chain lt o x y (z ∷ ys) e none = (o.chain z y x none.0 e, none-chain lt o x y ys e none.1)

rises-put : {X : Type 0} (lt : X → X → Bool) → IsStrictWeakOrder lt → (x : X) (ys : List X) → Rises lt ys → Rises lt (put_before lt x ys)
rises-put lt o x [] h = (tt, tt)
rises-put lt o x (y ∷ ys) h = go (lt y x) refl (rises-put lt o x ys h.1)
  where
    go : (b : Bool) → lt y x ≡ b → Rises lt (put_before lt x ys) → Rises lt (cond b (y ∷ put_before lt x ys) (x ∷ y ∷ ys))
    go true e more = (none-put lt y x ys h.0 (o.one_way y x e), more)
    go false e more = ((e, none-chain lt o x y ys e h.0), h)

pub rises-in_order : {X : Type 0} (lt : X → X → Bool) → IsStrictWeakOrder lt → (xs : List X) → Rises lt (in_order lt xs)
rises-in_order lt o [] = tt
rises-in_order lt o (x ∷ xs) = rises-put lt o x (in_order lt xs) (rises-in_order lt o xs)

-- two that tie with w tie with each other
not-apart : {X : Type 0} (lt : X → X → Bool) → IsStrictWeakOrder lt → (w x y : X) → ties lt w x ≡ true → ties lt w y ≡ true → lt y x ≡ false
not-apart lt o w x y one two = o.chain y w x (right (lt w y) (lt y w) two) (left (lt w x) (lt x w) one)
  where
    right : (a b : Bool) → (not a && not b) ≡ true → b ≡ false
    right true b e = absurd (true≢false (sym e))
    right false true e = absurd (true≢false (sym e))
    right false false e = refl

    left : (a b : Bool) → (not a && not b) ≡ true → a ≡ false
    left true b e = absurd (true≢false (sym e))
    left false b e = refl

ties-put : {X : Type 0} (lt : X → X → Bool) → IsStrictWeakOrder lt → (w x : X) (ys : List X) → filter (ties lt w) (put_before lt x ys) ≡ filter (ties lt w) (x ∷ ys)
ties-put lt o w x [] = refl
ties-put {X} lt o w x (y ∷ ys) = go (lt y x) refl (ties-put lt o w x ys)
  where
    swapped : (a b : Bool) → (a ≡ true → b ≡ true → true ≡ false) → (l : List X)
        → cond b (y ∷ cond a (x ∷ l) l) (cond a (x ∷ l) l) ≡ cond a (x ∷ cond b (y ∷ l) l) (cond b (y ∷ l) l)
    swapped true true h l = absurd (true≢false (h refl refl))
    swapped true false h l = refl
    swapped false true h l = refl
    swapped false false h l = refl

    go : (b : Bool) → lt y x ≡ b → filter (ties lt w) (put_before lt x ys) ≡ filter (ties lt w) (x ∷ ys)
        → filter (ties lt w) (cond b (y ∷ put_before lt x ys) (x ∷ y ∷ ys)) ≡ filter (ties lt w) (x ∷ y ∷ ys)
    go true e h =
        ap (λ l. cond (ties lt w y) (y ∷ l) l) h
        ∙ swapped (ties lt w x) (ties lt w y) (λ one two. sym e ∙ not-apart lt o w x y one two) (filter (ties lt w) ys)
    go false e h = refl

pub ties-in_order : {X : Type 0} (lt : X → X → Bool) → IsStrictWeakOrder lt → (w : X) (xs : List X) → filter (ties lt w) (in_order lt xs) ≡ filter (ties lt w) xs
ties-in_order lt o w [] = refl
ties-in_order lt o w (x ∷ xs) = ties-put lt o w x (in_order lt xs) ∙ ap (λ l. cond (ties lt w x) (x ∷ l) l) (ties-in_order lt o w xs)

-- what a stable sort gives
pub sorted_is : {X : Type 0} (lt : X → X → Bool) → IsStrictWeakOrder lt → (xs ys : List X) → IsSortedBy lt ys → IsStableBy lt xs ys → ys ≡ in_order lt xs
sorted_is lt o xs ys up stable =
    unique lt o ys (in_order lt xs) (rises-by lt ys (sorted_far lt o ys up)) (rises-in_order lt o xs) (λ w. stable w ∙ sym (ties-in_order lt o w xs))

-- ---- of other elements

put-map : {X Y : Type 0} (lt : X → X → Bool) (other : Y → Y → Bool) (f : X → Y) → ((x y : X) → lt x y ≡ other (f x) (f y)) → (x : X) (ys : List X)
    → map f (put_before lt x ys) ≡ put_before other (f x) (map f ys)
put-map lt other f h x [] = refl
put-map lt other f h x (y ∷ ys) = go (lt y x) (other (f y) (f x)) (h y x) (put-map lt other f h x ys)
  where
    go : (b c : Bool) → b ≡ c → map f (put_before lt x ys) ≡ put_before other (f x) (map f ys)
        → map f (cond b (y ∷ put_before lt x ys) (x ∷ y ∷ ys)) ≡ cond c (f y ∷ put_before other (f x) (map f ys)) (f x ∷ f y ∷ map f ys)
    go true true e more = ap (λ l. f y ∷ l) more
    go true false e more = absurd (true≢false e)
    go false true e more = absurd (true≢false (sym e))
    go false false e more = refl

pub in_order-map : {X Y : Type 0} (lt : X → X → Bool) (other : Y → Y → Bool) (f : X → Y) → ((x y : X) → lt x y ≡ other (f x) (f y)) → (xs : List X)
    → map f (in_order lt xs) ≡ in_order other (map f xs)
in_order-map lt other f h [] = refl
in_order-map lt other f h (x ∷ xs) = put-map lt other f h x (in_order lt xs) ∙ ap (put_before other (f x)) (in_order-map lt other f h xs)

-- ---- after another sort

-- of those that a test keeps, what a stricter test keeps
kept-twice : {X : Type 0} (p q : X → Bool) → ((x : X) → p x ≡ true → q x ≡ true) → (xs : List X) → filter p (filter q xs) ≡ filter p xs
kept-twice p q h [] = refl
kept-twice {X} p q h (x ∷ xs) = go (q x) (p x) refl (h x) (kept-twice p q h xs)
  where
    go : (a b : Bool) → p x ≡ b → (b ≡ true → a ≡ true) → filter p (filter q xs) ≡ filter p xs
        → filter p (cond a (x ∷ filter q xs) (filter q xs)) ≡ cond b (x ∷ filter p xs) (filter p xs)
    go true b e k more = ap (λ c. cond c (x ∷ filter p (filter q xs)) (filter p (filter q xs))) e ∙ ap (λ l. cond b (x ∷ l) l) more
    go false true e k more = absurd (true≢false (sym (k refl)))
    go false false e k more = more

-- two stable sorts are one, if what ties in the second ties in the first
pub stable_after : {X : Type 0} (lt other : X → X → Bool) → ((w x : X) → ties lt w x ≡ true → ties other w x ≡ true) → (xs ys zs : List X)
    → IsStableBy other xs ys → IsStableBy lt ys zs → IsStableBy lt xs zs
stable_after lt other h xs ys zs first second w =
    second w ∙ sym (kept-twice (ties lt w) (ties other w) (h w) ys) ∙ ap (filter (ties lt w)) (first w) ∙ kept-twice (ties lt w) (ties other w) (h w) xs
