-- The last place of a text, and what a change at a place leaves of the others.
use Rattle.ssh_findings.proofs.Imports.{◌≡◌, ◌∙◌, ◌<◌, ℕ, zero, suc, Bool, true, false, cond, List, [], ◌∷◌, ◌++◌, Some, None, refl, sym, ap, subst, get_or, length, map, set, arith, bytes_eq, option_or, get_or-set_other, get_or-set_same, length-set, bytes_eq-Decides, Slot, IsPlace, value_at}
use Rattle.ssh_findings.specs.Entries.{value_in}

-- what is read of each element stays, if a new one reads the same
pub map_set_same : {X Y : Type 0} (f : X → Y) (xs : List X) (i : ℕ) (y : X) → ((d : X) → f y ≡ f (get_or xs i d)) → map f (set xs i y) ≡ map f xs
map_set_same f [] i y h = refl
map_set_same f (x ∷ xs) zero y h = ap (λ z. z ∷ map f xs) (h x)
map_set_same f (x ∷ xs) (suc i) y h = ap (λ zs. f x ∷ zs) (map_set_same f xs i y h)

later : (i n : ℕ) → i < n → suc i < suc n
later i n h = omega (arith, h)

module _ {V : Type 0} where
  own-value : (p : Slot V) (text : List ℕ) → p.text.items ≡ text → value_at p text ≡ Some p.value
  own-value p text e = ap (λ b. cond b (Some p.value) None) ((bytes_eq-Decides p.text.items text).1 e)

  no-value : (p : Slot V) (text : List ℕ) → bytes_eq p.text.items text ≡ false → value_at p text ≡ None
  no-value p text e = ap (λ b. cond b (Some p.value) None) e

  -- no place is that of the text
  pub value_none : (ps : List (Slot V)) (text : List ℕ) → ((i : ℕ) (d : Slot V) → i < length ps → bytes_eq (get_or ps i d).text.items text ≡ false) → value_in ps text ≡ None
  unfolding value_in
  value_none [] text h = refl
  value_none (p ∷ ps) text h =
      ap (λ o. option_or o (value_at p text)) (value_none ps text (λ i d b. h (suc i) d (later i (length ps) b)))
      ∙ no-value p text (h 0 p (omega arith))

  -- one is
  pub value_there : (ps : List (Slot V)) (text : List ℕ) (i : ℕ) → IsPlace ps text i → (d : Slot V) → value_in ps text ≡ Some (get_or ps i d).value
  unfolding value_in
  value_there [] text i s d = let bad : i < 0 = s.within in absurd (omega (arith, bad))
  value_there (p ∷ ps) text zero s d =
      ap (λ o. option_or o (value_at p text)) (value_none ps text (λ j e b. s.after (suc j) e (omega arith) (later j (length ps) b)))
      ∙ own-value p text (s.own d)
  value_there (p ∷ ps) text (suc i) s d =
      let within : suc i < suc (length ps) = s.within in
      ap (λ o. option_or o (value_at p text))
      (value_there ps text i (record {
        within = omega (arith, within);
        own = s.own;
        after = λ j e f g. s.after (suc j) e (later i j f) (later j (length ps) g);
      }) d)

  -- one more place
  pub value_more : (ps : List (Slot V)) (p : Slot V) (text : List ℕ) → value_in (ps ++ p ∷ []) text ≡ cond (bytes_eq p.text.items text) (Some p.value) (value_in ps text)
  unfolding value_in
  value_more [] p text = refl
  value_more (q ∷ ps) p text = ap (λ o. option_or o (value_at q text)) (value_more ps p text) ∙ go (bytes_eq p.text.items text)
    where
      go : (b : Bool) → option_or (cond b (Some p.value) (value_in ps text)) (value_at q text) ≡ cond b (Some p.value) (option_or (value_in ps text) (value_at q text))
      go true = refl
      go false = refl

  -- ---- another value at a place

  place-set : (ps : List (Slot V)) (text : List ℕ) (i : ℕ) (q : Slot V) → IsPlace ps text i → q.text.items ≡ text → IsPlace (set ps i q) text i
  place-set ps text i q s e = record {
    within = subst (λ n. i < n) (sym (length-set ps i q)) s.within;
    own = λ d. ap (λ (p : Slot V). p.text.items) (get_or-set_same ps i q d s.within) ∙ e;
    after = λ j d f g.
        ap (λ (p : Slot V). bytes_eq p.text.items text) (get_or-set_other ps i j q d (λ same. omega (arith, f, same)))
        ∙ s.after j d f (subst (λ n. j < n) (length-set ps i q) g);
  }

  still : (ps : List (Slot V)) (i : ℕ) (q : Slot V) (text : List ℕ) → ((d : Slot V) → bytes_eq (get_or ps i d).text.items text ≡ false) → bytes_eq q.text.items text ≡ false
      → value_in (set ps i q) text ≡ value_in ps text
  unfolding value_in
  still [] i q text h k = refl
  still (p ∷ ps) zero q text h k = ap (option_or (value_in ps text)) (no-value q text k ∙ sym (no-value p text (h p)))
  still (p ∷ ps) (suc i) q text h k = ap (λ o. option_or o (value_at p text)) (still ps i q text h k)

  pub value_put : (ps : List (Slot V)) (text : List ℕ) (i : ℕ) (q : Slot V) → IsPlace ps text i → q.text.items ≡ text
      → (other : List ℕ) → value_in (set ps i q) other ≡ cond (bytes_eq text other) (Some q.value) (value_in ps other)
  value_put ps text i q s e other = go (bytes_eq text other) refl
    where
      go : (b : Bool) → bytes_eq text other ≡ b → value_in (set ps i q) other ≡ cond b (Some q.value) (value_in ps other)
      go true t =
          subst (λ u. value_in (set ps i q) u ≡ Some q.value) ((bytes_eq-Decides text other).0 t)
          (value_there (set ps i q) text i (place-set ps text i q s e) q ∙ ap (λ (p : Slot V). Some p.value) (get_or-set_same ps i q q s.within))
      go false t = still ps i q other (λ d. ap (λ bs. bytes_eq bs other) (s.own d) ∙ t) (ap (λ bs. bytes_eq bs other) e ∙ t)
