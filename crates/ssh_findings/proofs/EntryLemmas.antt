-- What a change of one entry leaves of the others, and of a sum over all.
use Rattle.ssh_findings.proofs.Imports.{◌≡◌, ◌∙◌, ◌+◌, ℕ, Bool, true, false, cond, List, [], ◌∷◌, ◌++◌, Option, Some, None, BTreeMap, Bor, option_copied, refl, sym, ap, subst, get_or, nat_cmp, set, arith, bytes_eq, is_some, UpdatesBy, get_by, insert_entry, is_at, eq_by_cmp_equiv, nat_list_cmp_total, slice_cmp, Ordering, Less, Equal, Greater, Vec, sum_by, lookup, set_value, option_or, OnErr, Result, Ok, Err, eq_by_cmp, is_eq, match_ordering, sum_by-append, sum_by-cons, sum_by-set, is_eq-slice_cmp, bytes_eq-Decides, ByteMap, Slot, IsPlace, IsUnchanged, other_of, weight_at}
use Rattle.std.specs.Map.{KeepsOthers}
use Rattle.ssh_findings.specs.Entries.{entry_of, sum_of, value_in}
use Rattle.ssh_findings.proofs.PlaceLemmas.{value_more, value_put, value_there}

-- a clause that holds for either result
pub on_err : {T E : Type 0} (r : Result T E) {P : Type 0} → P → OnErr r P
on_err (Ok x) p = tt
on_err (Err e) p = p

-- ---- maps by texts

apart : (bs cs ks : List ℕ) → bytes_eq bs cs ≡ false → bytes_eq bs ks ≡ true → bytes_eq cs ks ≡ false
apart bs cs ks n y = go (bytes_eq cs ks) refl
  where
    go : (b : Bool) → bytes_eq cs ks ≡ b → b ≡ false
    go false e = refl
    go true e =
        let same : bs ≡ cs = (bytes_eq-Decides bs ks).0 y ∙ sym ((bytes_eq-Decides cs ks).0 e) in
        let bad : true ≡ false = sym ((bytes_eq-Decides bs cs).1 same) ∙ n in
        cc

others : {X : Type 0} (bs cs : List ℕ) (m n : BTreeMap (Vec ℕ) X) → bytes_eq bs cs ≡ false
    → KeepsOthers (eq_by_cmp (λ x y. slice_cmp nat_cmp x.items y.items)) (is_at (λ key. slice_cmp nat_cmp bs key.items)) m.entries n.entries
    → get_by (λ key. slice_cmp nat_cmp cs key.items) n ≡ get_by (λ key. slice_cmp nat_cmp cs key.items) m
unfolding KeepsOthers
others bs cs m n differ h =
    h (is_at (λ key. slice_cmp nat_cmp cs key.items))
    (λ x y. (eq_by_cmp_equiv nat_list_cmp_total).congr cs x.items y.items)
    (λ key e. is_eq-slice_cmp cs key.items ∙ apart bs cs key.items differ (sym (is_eq-slice_cmp bs key.items) ∙ e))

-- what a change at the bytes bs leaves at any bytes cs
updated : {X : Type 0} (bs cs : List ℕ) (m n : BTreeMap (Vec ℕ) X) (w : Option X)
    → UpdatesBy (λ x y. slice_cmp nat_cmp x.items y.items) (λ key. slice_cmp nat_cmp bs key.items) m n w
    → get_by (λ key. slice_cmp nat_cmp cs key.items) n ≡ cond (bytes_eq bs cs) w (get_by (λ key. slice_cmp nat_cmp cs key.items) m)
updated bs cs m n w h = go (bytes_eq bs cs) refl
  where
    go : (b : Bool) → bytes_eq bs cs ≡ b → get_by (λ key. slice_cmp nat_cmp cs key.items) n ≡ cond b w (get_by (λ key. slice_cmp nat_cmp cs key.items) m)
    go true e = subst (λ ds. get_by (λ key. slice_cmp nat_cmp ds key.items) n ≡ w) ((bytes_eq-Decides bs cs).0 e) h.1
    go false e = others bs cs m n e h.3

-- ---- sums over entries

turned : (a b : ℕ) → a + b ≡ b + a
turned a b = omega arith

later-in : (x y t s u : ℕ) → t ≡ s + y → u ≡ x + s → x + t ≡ u + y
later-in x y t s u h k = omega (arith, h, k)

set-first : (x y s u a b : ℕ) → u ≡ y + s → y ≡ a → x ≡ b → x + s + a ≡ u + b
set-first x y s u a b e h k = omega (arith, e, h, k)

set-later : (x s t u a b : ℕ) → u ≡ x + s → t + a ≡ s + b → x + t + a ≡ u + b
set-later x s t u a b e h = omega (arith, e, h)

-- one more entry
sum-more : {K X : Type 0} (g : K × X → ℕ) (R : K → K → Ordering) (es : List (K × X)) (k : K) (v : X)
    → lookup (is_at (R k)) es ≡ None → sum_by g (insert_entry R es k v) ≡ sum_by g es + g (k, v)
sum-more g R [] k v h = refl
sum-more g R (e ∷ es) k v h = go (R k e.0) h (sum-more g R es k v)
  where
    go : (o : Ordering) → cond (is_eq o) (Some e.1) (lookup (is_at (R k)) es) ≡ None
        → (lookup (is_at (R k)) es ≡ None → sum_by g (insert_entry R es k v) ≡ sum_by g es + g (k, v))
        → sum_by g (match_ordering o ((k, v) ∷ e ∷ es) ((e.0, v) ∷ es) (e ∷ insert_entry R es k v)) ≡ sum_by g (e ∷ es) + g (k, v)
    go Less h rest = sum_by-cons g (k, v) (e ∷ es) ∙ turned (g (k, v)) (sum_by g (e ∷ es))
    go Equal h rest = cc
    go Greater h rest =
        sum_by-cons g e (insert_entry R es k v)
        ∙ later-in (g e) (g (k, v)) (sum_by g (insert_entry R es k v)) (sum_by g es) (sum_by g (e ∷ es)) (rest h) (sum_by-cons g e es)

-- another value in an entry, whose measure is b instead of a
sum-set : {K X : Type 0} (g : K × X → ℕ) (test : K → Bool) (es : List (K × X)) (v w : X) (a b : ℕ)
    → ((k : K) → test k ≡ true → (g (k, v) ≡ a) × (g (k, w) ≡ b)) → lookup test es ≡ Some v
    → sum_by g (set_value test es w) + a ≡ sum_by g es + b
sum-set g test [] v w a b h found = cc
sum-set g test (e ∷ es) v w a b h found = go (test e.0) refl found (sum-set g test es v w a b h)
  where
    go : (c : Bool) → test e.0 ≡ c → cond c (Some e.1) (lookup test es) ≡ Some v
        → (lookup test es ≡ Some v → sum_by g (set_value test es w) + a ≡ sum_by g es + b)
        → sum_by g (cond c ((e.0, w) ∷ es) (e ∷ set_value test es w)) + a ≡ sum_by g (e ∷ es) + b
    go true t found rest =
        let same : e.1 ≡ v = cc in
        let at : g e ≡ a = ap (λ x. g (e.0, x)) same ∙ (h e.0 t).0 in
        ap (λ s. s + a) (sum_by-cons g (e.0, w) es)
        ∙ set-first (g (e.0, w)) (g e) (sum_by g es) (sum_by g (e ∷ es)) a b (sum_by-cons g e es) at (h e.0 t).1
    go false t found rest =
        ap (λ s. s + a) (sum_by-cons g e (set_value test es w))
        ∙ set-later (g e) (sum_by g es) (sum_by g (set_value test es w)) (sum_by g (e ∷ es)) a b (sum_by-cons g e es) (rest found)

-- ---- the entry of one text changes

module _ {V : Type 0} where
  -- the measure of a place
  abbrev of_place : (List ℕ → V → ℕ) → Slot V → ℕ
  of_place weight p = weight p.text.items p.value

  abbrev of_other : (List ℕ → V → ℕ) → Vec ℕ × V → ℕ
  of_other weight e = weight e.0.items e.1

  -- no entries
  pub none_of : (m : ByteMap V) (text : List ℕ) → m.places.items ≡ [] → m.others.entries ≡ [] → entry_of m text ≡ None
  unfolding entry_of value_in
  none_of m text e f =
      ap (λ ps. option_or (value_in ps text) (other_of m text)) e
      ∙ ap (λ es. lookup (is_at (λ key. slice_cmp nat_cmp text key.items)) es) f

  pub sum_of_none : (weight : List ℕ → V → ℕ) (m : ByteMap V) → m.places.items ≡ [] → m.others.entries ≡ [] → sum_of weight m ≡ 0
  unfolding sum_of
  sum_of_none weight m e f =
      ap (λ ps. sum_by (of_place weight) ps + sum_by (of_other weight) m.others.entries) e
      ∙ ap (λ es. 0 + sum_by (of_other weight) es) f

  -- maps of the same entries
  pub unchanged : (m n : ByteMap V) → n.places.items ≡ m.places.items → n.others.entries ≡ m.others.entries → IsUnchanged m n
  unfolding entry_of sum_of
  unchanged m n e f = record {
    entries = λ text.
        ap (λ ps. option_or (value_in ps text) (other_of n text)) e
        ∙ ap (λ es. option_or (value_in m.places.items text) (lookup (is_at (λ key. slice_cmp nat_cmp text key.items)) es)) f;
    sums = λ weight.
        ap (λ ps. sum_by (of_place weight) ps + sum_by (of_other weight) n.others.entries) e
        ∙ ap (λ es. sum_by (of_place weight) m.places.items + sum_by (of_other weight) es) f;
  }

  -- the entry of a text: at its place, or among the others
  pub entry_there : (m : ByteMap V) (text : List ℕ) (i : ℕ) (d : Slot V) → IsPlace m.places.items text i → entry_of m text ≡ Some (get_or m.places.items i d).value
  unfolding entry_of
  entry_there m text i d place = ap (λ o. option_or o (other_of m text)) (value_there m.places.items text i place d)

  pub entry_other : (m : ByteMap V) (text : List ℕ) → value_in m.places.items text ≡ None → entry_of m text ≡ other_of m text
  unfolding entry_of
  entry_other m text none = ap (λ o. option_or o (other_of m text)) none

  -- a text that has no place, and is not among the others
  pub entry_none : (m : ByteMap V) (text : List ℕ) (found : Option (Bor V)) → value_in m.places.items text ≡ None → option_copied found ≡ other_of m text
      → is_some found ≡ false → entry_of m text ≡ None
  entry_none m text None h e f = entry_other m text h ∙ sym e
  entry_none m text (Some x) h e f = cc

  front : (b : Bool) (v : V) (x y : Option V) → option_or (cond b (Some v) x) y ≡ cond b (Some v) (option_or x y)
  front true v x y = refl
  front false v x y = refl

  -- another value at the place of a text
  pub entry_put : (m n : ByteMap V) (text : List ℕ) (i : ℕ) (q : Slot V) → IsPlace m.places.items text i → q.text.items ≡ text
      → n.places.items ≡ set m.places.items i q → n.others ≡ m.others
      → (other : List ℕ) → entry_of n other ≡ cond (bytes_eq text other) (Some q.value) (entry_of m other)
  unfolding entry_of
  entry_put m n text i q place e items same other =
      ap (λ o. option_or (value_in n.places.items other) (get_by (λ key. slice_cmp nat_cmp other key.items) o)) same
      ∙ ap (λ ps. option_or (value_in ps other) (other_of m other)) items
      ∙ ap (λ o. option_or o (other_of m other)) (value_put m.places.items text i q place e other)
      ∙ front (bytes_eq text other) q.value (value_in m.places.items other) (other_of m other)

  -- one more place
  pub entry_more : (m n : ByteMap V) (p : Slot V) → n.places.items ≡ m.places.items ++ p ∷ [] → n.others ≡ m.others
      → (other : List ℕ) → entry_of n other ≡ cond (bytes_eq p.text.items other) (Some p.value) (entry_of m other)
  unfolding entry_of
  entry_more m n p items same other =
      ap (λ o. option_or (value_in n.places.items other) (get_by (λ key. slice_cmp nat_cmp other key.items) o)) same
      ∙ ap (λ ps. option_or (value_in ps other) (other_of m other)) items
      ∙ ap (λ o. option_or o (other_of m other)) (value_more m.places.items p other)
      ∙ front (bytes_eq p.text.items other) p.value (value_in m.places.items other) (other_of m other)

  -- a text is put among the others
  pub other_put : (m n : ByteMap V) (text : List ℕ) (value : V) → value_in m.places.items text ≡ None → n.places ≡ m.places
      → UpdatesBy (λ x y. slice_cmp nat_cmp x.items y.items) (λ key. slice_cmp nat_cmp text key.items) m.others n.others (Some value)
      → (other : List ℕ) → entry_of n other ≡ cond (bytes_eq text other) (Some value) (entry_of m other)
  unfolding entry_of
  other_put m n text value none same h other =
      ap (λ (ps : Vec (Slot V)). option_or (value_in ps.items other) (other_of n other)) same
      ∙ ap (option_or (value_in m.places.items other)) (updated text other m.others n.others (Some value) h)
      ∙ go (bytes_eq text other) refl
    where
      go : (b : Bool) → bytes_eq text other ≡ b
          → option_or (value_in m.places.items other) (cond b (Some value) (other_of m other))
          ≡ cond b (Some value) (option_or (value_in m.places.items other) (other_of m other))
      go true t =
          let absent : value_in m.places.items other ≡ None = subst (λ u. value_in m.places.items u ≡ None) ((bytes_eq-Decides text other).0 t) none in
          ap (λ o. option_or o (Some value)) absent
      go false t = refl

  -- ---- and the sum over all

  pub sum_put : (weight : List ℕ → V → ℕ) (m n : ByteMap V) (text : List ℕ) (i : ℕ) (q : Slot V) → IsPlace m.places.items text i → q.text.items ≡ text
      → n.places.items ≡ set m.places.items i q → n.others ≡ m.others
      → sum_of weight n + weight_at weight text (entry_of m text) ≡ sum_of weight m + weight text q.value
  unfolding sum_of
  sum_put weight m n text i q place e items same =
      let now = sum_by-set (of_place weight) m.places.items i q q place.within in
      let places = ap (sum_by (of_place weight)) items in
      let others = ap (λ (o : BTreeMap (Vec ℕ) V). sum_by (of_other weight) o.entries) same in
      let old = ap (weight_at weight text) (entry_there m text i q place) in
      let before = ap (λ bs. weight bs (get_or m.places.items i q).value) (place.own q) in
      let own = ap (λ bs. weight bs q.value) e in
      omega (arith, now, places, others, old, before, own)

  pub sum_more_place : (weight : List ℕ → V → ℕ) (m n : ByteMap V) (text : List ℕ) (p : Slot V) → n.places.items ≡ m.places.items ++ p ∷ [] → n.others ≡ m.others
      → p.text.items ≡ text → entry_of m text ≡ None
      → sum_of weight n + weight_at weight text (entry_of m text) ≡ sum_of weight m + weight text p.value
  unfolding sum_of
  sum_more_place weight m n text p items same e absent =
      let places = ap (sum_by (of_place weight)) items ∙ sum_by-append (of_place weight) m.places.items (p ∷ []) in
      let one = sum_by-cons (of_place weight) p [] in
      let others = ap (λ (o : BTreeMap (Vec ℕ) V). sum_by (of_other weight) o.entries) same in
      let before = ap (weight_at weight text) absent in
      let own = ap (λ bs. weight bs p.value) e in
      omega (arith, places, one, others, before, own)

  pub sum_other : (weight : List ℕ → V → ℕ) (m n : ByteMap V) (text : List ℕ) (old value : V) → n.places ≡ m.places
      → n.others.entries ≡ set_value (is_at (λ key. slice_cmp nat_cmp text key.items)) m.others.entries value
      → other_of m text ≡ Some old → entry_of m text ≡ Some old
      → sum_of weight n + weight_at weight text (entry_of m text) ≡ sum_of weight m + weight text value
  unfolding sum_of
  sum_other weight m n text old value same entries found there =
      let now = sum-set (of_other weight) (is_at (λ key. slice_cmp nat_cmp text key.items)) m.others.entries old value (weight text old) (weight text value)
      (λ key t.
      let own : key.items ≡ text = sym ((bytes_eq-Decides text key.items).0 (sym (is_eq-slice_cmp text key.items) ∙ t)) in
      (ap (λ bs. weight bs old) own, ap (λ bs. weight bs value) own)) found in
      let places = ap (λ (ps : Vec (Slot V)). sum_by (of_place weight) ps.items) same in
      let others = ap (sum_by (of_other weight)) entries in
      let before = ap (weight_at weight text) there in
      omega (arith, now, places, others, before)

  pub sum_other_new : (weight : List ℕ → V → ℕ) (m n : ByteMap V) (text : List ℕ) (key : Vec ℕ) (value : V) → n.places ≡ m.places
      → n.others.entries ≡ insert_entry (λ x y. slice_cmp nat_cmp x.items y.items) m.others.entries key value
      → key.items ≡ text → other_of m text ≡ None → entry_of m text ≡ None
      → sum_of weight n + weight_at weight text (entry_of m text) ≡ sum_of weight m + weight text value
  unfolding sum_of
  sum_other_new weight m n text key value same entries e none absent =
      let gone : lookup (is_at (λ (k : Vec ℕ). slice_cmp nat_cmp key.items k.items)) m.others.entries ≡ None = subst (λ bs. other_of m bs ≡ None) (sym e) none in
      let now = sum-more (of_other weight) (λ x y. slice_cmp nat_cmp x.items y.items) m.others.entries key value gone in
      let places = ap (λ (ps : Vec (Slot V)). sum_by (of_place weight) ps.items) same in
      let others = ap (sum_by (of_other weight)) entries in
      let before = ap (weight_at weight text) absent in
      let own = ap (λ bs. weight bs value) e in
      omega (arith, now, places, others, before, own)
