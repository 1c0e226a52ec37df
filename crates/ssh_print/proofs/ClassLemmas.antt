-- From the bits of sixteen bytes to how many come before the first that is not of a class.
use Rattle.std.proofs.Common.{◌≡◌, ◌∙◌, ◌&&◌, ◌+◌, ◌-◌, ◌%◌, ◌^◌, ◌<◌, ◌≤◌, ℕ, suc, eqb, cond, Bool, true, false, not, List, [], ◌∷◌, map, length, take, drop, get_or, refl, ap, sym, arith, inl, inr}
use Rattle.std.proofs.lemmas.Bool.{agree_below, agree_below_at, cases_eq, cond-true, cond-false, eq-eqb, ne_eqb}
use Rattle.std.proofs.lemmas.Simd.{map-map, mask_l-mod, first_set_mask_l}
use Rattle.std.proofs.lemmas.List.{length-map, take-append-drop, length-take-le}
use Rattle.std.proofs.lemmas.List.Folds.{prefix_len-append}
use Rattle.std.proofs.lemmas.List.Sums.{prefix_len_is, prefix_len-le-length, prefix_len_passes, prefix_len_stops}
use Rattle.std.proofs.Math.Dec.{eqb-zero-suc}
use Rattle.std.specs.List.{prefix_len, list_all}
use lib.Lanes.{mask_l, top}
use Rattle.ssh_print.specs.ByteClasses.{first_set}

-- two tests that agree on all bytes
same_front : (p q : ℕ → Bool) (d : List ℕ) → ((i : ℕ) → get_or d i 0 < 256) → agree_below p q 256 ≡ true → prefix_len p d ≡ prefix_len q d
same_front p q d fits agree =
    prefix_len_is p d (prefix_len q d) 0 (prefix_len-le-length q d)
    (λ k below. agree_below_at p q 256 (get_or d k 0) agree (fits k) ∙ prefix_len_passes q d k 0 below)
    (λ below. agree_below_at p q 256 (get_or d (prefix_len q d) 0) agree (fits (prefix_len q d)) ∙ prefix_len_stops q d 0 below)

-- sixteen lanes z, each made of its byte by f, where the top bit is that of a byte that is not of the class q
pub class_front : (q : ℕ → Bool) (f : ℕ → ℕ) (d z : List ℕ) (r : ℕ) → length d ≡ 16 → ((i : ℕ) → get_or d i 0 < 256)
    → r ≡ first_set (mask_l (map (top 7) z) % 2 ^ 64) → z ≡ map f d → agree_below (λ x. not (top 7 (f x))) q 256 ≡ true → r ≡ prefix_len q d
class_front q f d z r long fits found lanes agree =
    let others : ℕ → Bool = λ x. top 7 (f x) in
    let few : length (map others d) ≤ 64 = omega (arith, length-map d others, long) in
    let mask = ap (λ l. mask_l l % 2 ^ 64) (ap (map (top 7)) lanes ∙ map-map (top 7) f d) ∙ mask_l-mod (map others d) 64 few in
    found ∙ ap (λ m. first_set m) mask ∙ first_set_mask_l others d 16 long (omega arith) ∙ same_front (λ x. not (others x)) q d fits agree

-- some at the front, and what is behind them
split : (q : ℕ → Bool) (n : ℕ) (d : List ℕ)
    → prefix_len q d ≡ cond (eqb (prefix_len q (take n d)) (length (take n d))) (length (take n d) + prefix_len q (drop n d)) (prefix_len q (take n d))
split q n d = ap (λ l. prefix_len q l) (sym (take-append-drop n d)) ∙ prefix_len-append q (take n d) (drop n d)

pub front_stops : (q : ℕ → Bool) (d : List ℕ) → prefix_len q (take 16 d) < 16 → 16 ≤ length d → prefix_len q d ≡ prefix_len q (take 16 d)
front_stops q d stops long =
    let taken = length-take-le 16 d long in
    let few : prefix_len q (take 16 d) ≡ length (take 16 d) → ⊥ = λ e. omega (arith, stops, taken, e) in
    split q 16 d ∙ cond-false _ _ _ (ne_eqb _ _ few)

pub front_goes_on : (q : ℕ → Bool) (d : List ℕ) → 16 ≤ prefix_len q (take 16 d) → 16 ≤ length d → prefix_len q d ≡ 16 + prefix_len q (drop 16 d)
front_goes_on q d goes long =
    let taken = length-take-le 16 d long in
    let all : prefix_len q (take 16 d) ≡ length (take 16 d) = omega (arith, goes, taken, prefix_len-le-length q (take 16 d)) in
    split q 16 d ∙ cond-true _ _ _ (eq-eqb _ _ all) ∙ ap (λ n. n + prefix_len q (drop 16 d)) taken

-- some at the front that are of the class, and what is behind them
skips : (q : ℕ → Bool) (n : ℕ) (d : List ℕ) → n ≤ length d → n ≤ prefix_len q d → prefix_len q d ≡ n + prefix_len q (drop n d)
skips q n d within goes = elim (cases_eq (prefix_len q (take n d)) (length (take n d))) [
  | inl e ↦ split q n d ∙ cond-true _ _ _ (eq-eqb _ _ e) ∙ ap (λ m. m + prefix_len q (drop n d)) (length-take-le n d within)
  | inr ne ↦
      let stops : prefix_len q d ≡ prefix_len q (take n d) = split q n d ∙ cond-false _ _ _ (ne_eqb _ _ ne) in
      absurd (ne (omega (arith, goes, stops, length-take-le n d within, prefix_len-le-length q (take n d))))
]

-- the last sixteen, of which those may be counted already that are of the class
pub front_overlaps : (q : ℕ → Bool) (d : List ℕ) → 16 ≤ length d → length d - 16 ≤ prefix_len q d
    → prefix_len q d ≡ length d - 16 + prefix_len q (drop (length d - 16) d)
front_overlaps q d long goes = skips q (length d - 16) d (omega (arith, long)) goes

pub front_within : (q : ℕ → Bool) (d : List ℕ) → prefix_len q d ≤ length d
front_within q d = prefix_len-le-length q d

eqb-more : (a b : ℕ) → eqb a b ≡ eqb (1 + a) (suc b)
eqb-more a b = elim (cases_eq a b) [
  | inl e ↦ eq-eqb a b e ∙ sym (eq-eqb (1 + a) (suc b) (omega (arith, e)))
  | inr ne ↦
      let more : 1 + a ≡ suc b → ⊥ = λ e. ne (omega (arith, e)) in
      ne_eqb a b ne ∙ sym (ne_eqb (1 + a) (suc b) more)
]

-- all are of the class where the front is the whole
pub all_in_front : (q : ℕ → Bool) (d : List ℕ) → list_all q d ≡ eqb (prefix_len q d) (length d)
all_in_front q [] = refl
all_in_front q (c ∷ d) = go (q c) (all_in_front q d)
  where
    go : (b : Bool) → list_all q d ≡ eqb (prefix_len q d) (length d) → (b && list_all q d) ≡ eqb (cond b (1 + prefix_len q d) 0) (suc (length d))
    go true later = later ∙ eqb-more (prefix_len q d) (length d)
    go false later = sym (eqb-zero-suc (length d))
