-- A search from the last hash of a row to the first finds the last place of a text, if it has one.
use Rattle.ssh_findings.proofs.Imports.{◌≡◌, ◌≢◌, ◌∙◌, ◌<◌, ◌≤◌, ℕ, suc, Bool, true, false, List, None, ap, arith, ltb, get_or, length, map, refl, subst, sym, bytes_eq, slice_index, eqb-false, ltb-false, ltb-true, ne_eqb, Decides-eqb, get_or-map, length-map, bytes_eq-Decides, Slot, IsPlace, IsLast, row_of}
use Rattle.std.specs.Prelude.{◌==◌}
use Rattle.ssh_findings.specs.Entries.{value_in}
use Rattle.ssh_findings.specs.Number.{number}
use Rattle.ssh_findings.proofs.PlaceLemmas.{value_none}

-- texts with different hashes differ
pub numbers_apart : (n wanted : ℕ) (ks text : List ℕ) → n ≡ number ks → wanted ≡ number text → n ≢ wanted → (n == wanted) ≡ bytes_eq ks text
numbers_apart n wanted ks text e f h = go (bytes_eq ks text) refl
  where
    go : (b : Bool) → bytes_eq ks text ≡ b → (n == wanted) ≡ b
    go true t = absurd (h (e ∙ ap number ((bytes_eq-Decides ks text).0 t) ∙ sym f))
    go false t = ne_eqb n wanted h

module _ {V : Type 0} where
  pub numbers_from : List (Slot V) → List ℕ
  numbers_from ps = map (λ p. number p.text.items) ps

  pub number_at : (ns : List ℕ) (ps : List (Slot V)) (i : ℕ) (d : Slot V) → ns ≡ map (λ p. number p.text.items) ps → i < length ps
      → slice_index ns i ≡ number (get_or ps i d).text.items
  number_at ns ps i d e h = ap (λ ms. slice_index ms i) e ∙ get_or-map (λ (p : Slot V). number p.text.items) ps i d 0 h

  pub count_of : (ns : List ℕ) (ps : List (Slot V)) → ns ≡ map (λ p. number p.text.items) ps → length ns ≡ length ps
  count_of ns ps e = ap length e ∙ length-map ps (λ (p : Slot V). number p.text.items)

  -- as far as a search has come, all later places are those of other texts, and the next is in the text's row
  pub record Wanted (rows : ℕ) (ns : List ℕ) (ps : List (Slot V)) (text : List ℕ) (next : ℕ) : Type 0 where
    pub within : next ≤ length ps
    pub own : (i : ℕ) → next ≡ suc i → row_of (slice_index ns i) rows ≡ row_of (number text) rows
    pub after : (i : ℕ) (d : Slot V) → next ≤ i → i < length ps → bytes_eq (get_or ps i d).text.items text ≡ false

  -- a text in another row
  unlike : (rows : ℕ) (ns : List ℕ) (ps : List (Slot V)) (text : List ℕ) (i : ℕ) (d : Slot V) → ns ≡ map (λ p. number p.text.items) ps → i < length ps
      → row_of (slice_index ns i) rows ≢ row_of (number text) rows → bytes_eq (get_or ps i d).text.items text ≡ false
  unlike rows ns ps text i d e h differ = go (bytes_eq (get_or ps i d).text.items text) refl
    where
      go : (b : Bool) → bytes_eq (get_or ps i d).text.items text ≡ b → b ≡ false
      go true t = absurd (differ (ap (λ n. row_of n rows) (number_at ns ps i d e h ∙ ap number ((bytes_eq-Decides (get_or ps i d).text.items text).0 t))))
      go false t = refl

  pub wanted_first : (rows : ℕ) (ns : List ℕ) (ps : List (Slot V)) (text : List ℕ) (wanted next : ℕ) → ns ≡ map (λ p. number p.text.items) ps → wanted ≡ number text
      → IsLast rows ns (row_of wanted rows) (length ns) next → Wanted rows ns ps text next
  wanted_first rows ns ps text wanted next e same last = record {
    within = subst (λ n. next ≤ n) (count_of ns ps e) last.within;
    own = λ i f. last.own i f ∙ ap (λ n. row_of n rows) same;
    after = λ i d f g. unlike rows ns ps text i d e g
        (λ h. last.after i f (subst (λ n. i < n) (sym (count_of ns ps e)) g) (h ∙ ap (λ n. row_of n rows) (sym same)));
  }

  pub wanted_next : (rows : ℕ) (ns : List ℕ) (ps : List (Slot V)) (text : List ℕ) (at place next : ℕ) → ns ≡ map (λ p. number p.text.items) ps → at ≡ suc place
      → Wanted rows ns ps text at → ((d : Slot V) → bytes_eq (get_or ps place d).text.items text ≡ false)
      → IsLast rows ns (row_of (slice_index ns place) rows) place next → Wanted rows ns ps text next
  wanted_next rows ns ps text at place next e same s not-here last = record {
    within = omega (arith, last.within, s.within, same);
    own = λ i f. last.own i f ∙ s.own place same;
    after = λ i d f g. go i d f g (i == place) refl;
  }
    where
      less : (i : ℕ) → i ≢ place → at ≤ i → i < place → ⊥
      less i h k l = omega (arith, k, l, same)

      go : (i : ℕ) (d : Slot V) → next ≤ i → i < length ps → (b : Bool) → (i == place) ≡ b → bytes_eq (get_or ps i d).text.items text ≡ false
      go i d f g true t = subst (λ k. bytes_eq (get_or ps k d).text.items text ≡ false) (sym ((Decides-eqb i place).0 t)) (not-here d)
      go i d f g false t = side (ltb i place) refl
        where
          side : (b : Bool) → ltb i place ≡ b → bytes_eq (get_or ps i d).text.items text ≡ false
          side true u = unlike rows ns ps text i d e g (λ h. last.after i f (ltb-true i place u) (h ∙ sym (s.own place same)))
          side false u =
              let from : place ≤ i = ltb-false i place u in
              s.after i d (beyond i (eqb-false i place t) from) g
            where
              beyond : (j : ℕ) → j ≢ place → place ≤ j → at ≤ j
              beyond j h k = omega (arith, h, k, same)

  pub none_wanted : (rows : ℕ) (ns : List ℕ) (ps : List (Slot V)) (text : List ℕ) (next : ℕ) → Wanted rows ns ps text next → next ≤ 0 → value_in ps text ≡ None
  none_wanted rows ns ps text next s h = value_none ps text (λ i d g. s.after i d (omega (arith, h)) g)

  pub place_wanted : (rows : ℕ) (ns : List ℕ) (ps : List (Slot V)) (text : List ℕ) (at place : ℕ) → at ≡ suc place → Wanted rows ns ps text at
      → ((d : Slot V) → bytes_eq (get_or ps place d).text.items text ≡ true) → IsPlace ps text place
  place_wanted rows ns ps text at place same s here = record {
    within = omega (arith, same, s.within);
    own = λ d. (bytes_eq-Decides (get_or ps place d).text.items text).0 (here d);
    after = λ i d f g. s.after i d (omega (arith, same, f)) g;
  }
