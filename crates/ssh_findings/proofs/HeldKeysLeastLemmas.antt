-- The shortest bytes of a number, with leading zero bytes or without.
use Rattle.ssh_findings.proofs.Imports.{◌≡◌, ◌∙◌, ℕ, ◌+◌, ◌*◌, ◌<◌, Bool, true, false, cond, eqb, List, [], ◌∷◌, ◌++◌, reverse, refl, sym, ap, arith, inl, inr, nat_lt, nat_le, cases_lt, lt-leb, ltb-true, ne_eqb, reverse-append, worth, natural, is_least, is_not_negative, least_of}
use Rattle.std.specs.Prelude.{◌&&◌}

-- the bytes that are left are the shortest, encode a number, and the same one
pub record IsLeastOf (bytes found : List ℕ) : Type 0 where
  pub least : is_least found ≡ true
  pub sign : is_not_negative found ≡ true
  pub same : natural found ≡ natural bytes

worth-zero_top : (low : List ℕ) → worth (low ++ 0 ∷ []) ≡ worth low
worth-zero_top [] = refl
worth-zero_top (b ∷ low) = ap (λ (n : ℕ). b + 256 * n) (worth-zero_top low)

natural-zero_top : (rest : List ℕ) → natural (0 ∷ rest) ≡ natural rest
natural-zero_top rest = ap worth (reverse-append (0 ∷ []) rest) ∙ worth-zero_top (reverse rest)

-- a first byte from 1 to 127 cannot be left out
kept-least : (b : ℕ) (more : List ℕ) → 0 < b → b < 128 → is_least (b ∷ more) ≡ true
kept-least b [] some few = let above : nat_le b 0 ≡ false = lt-leb b 0 some in rw above refl
kept-least b (c ∷ more) some few =
    let above : nat_le b 0 ≡ false = lt-leb b 0 some in
    let below : nat_le 255 b ≡ false = lt-leb 255 b (omega (arith, few)) in
    rw above (rw below refl)

-- a byte 00 before a set bit cannot be left out
zero-least : (c : ℕ) (more : List ℕ) → nat_lt c 128 ≡ false → is_least (0 ∷ c ∷ more) ≡ true
zero-least c more set = rw set refl

kept : (b : ℕ) (more : List ℕ) → 0 < b → is_not_negative (b ∷ more) ≡ true → IsLeastOf (b ∷ more) (least_of (b ∷ more))
kept b more some sign =
    let other : eqb b 0 ≡ false = ne_eqb b 0 (λ e. omega (arith, some, e)) in
    let all : least_of (b ∷ more) ≡ b ∷ more = ap (λ z. cond (z && is_not_negative more) (least_of more) (b ∷ more)) other in
    record {
      least = ap is_least all ∙ kept-least b more some (ltb-true b 128 sign);
      sign = ap is_not_negative all ∙ sign;
      same = ap natural all;
    }

zero-kept : (more : List ℕ) → is_not_negative more ≡ false → IsLeastOf (0 ∷ more) (0 ∷ more)
zero-kept [] set = cc
zero-kept (c ∷ more) set = record { least = zero-least c more set; sign = refl; same = refl }

pub least-is : (bytes : List ℕ) → is_not_negative bytes ≡ true → IsLeastOf bytes (least_of bytes)
least-is [] sign = record { least = refl; sign = refl; same = refl }
least-is (b ∷ more) sign = elim (cases_lt 0 b) [
  | inl some ↦ kept b more some sign
  | inr none ↦
      let zero : b ≡ 0 = omega (arith, none) in
      rw zero (go (is_not_negative more) refl (least-is more))
]
  where
    go : (s : Bool) → is_not_negative more ≡ s → (is_not_negative more ≡ true → IsLeastOf more (least_of more)) → IsLeastOf (0 ∷ more) (least_of (0 ∷ more))
    go true e h =
        let all : least_of (0 ∷ more) ≡ least_of more = ap (λ s. cond s (least_of more) (0 ∷ more)) e in
        record {
          least = ap is_least all ∙ (h e).least;
          sign = ap is_not_negative all ∙ (h e).sign;
          same = ap natural all ∙ (h e).same ∙ sym (natural-zero_top more);
        }
    go false e h =
        let all : least_of (0 ∷ more) ≡ 0 ∷ more = ap (λ s. cond s (least_of more) (0 ∷ more)) e in
        record {
          least = ap is_least all ∙ (zero-kept more e).least;
          sign = ap is_not_negative all ∙ (zero-kept more e).sign;
          same = ap natural all;
        }
