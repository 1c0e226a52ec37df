-- Lemmas about least bytes: those of zero, the shortest ones, and equal ones.
use Rattle.ssh_wire.proofs.Imports.{◌≡◌, ℕ, suc, ◌+◌, ◌*◌, ◌^◌, ◌<◌, ◌≤◌, Bool, true, false, not, ltb, eqb, List, [], ◌∷◌, ◌++◌, length, reverse, Err, refl, sym, ap, ◌∙◌, arith, inl, inr, nat_lt, nat_le, ◌&&◌, ◌||◌, cases_lt, ltb-true, lt-ltb, le-ltb, lt-leb, ne_eqb, bytes_eq, bytes_eq-Decides, eq-eqb, reverse-append, WireError, worth, natural, is_least, is_not_negative, mpint, Position, IsBytes, IsRefused, refused_none, mpint_bytes-natural, mpint_bytes-are_least, mpint_again}
use Rattle.ssh_wire.specs.Spelling.{mpint_bytes}
use Rattle.ssh_wire.specs.Reading.{mpint_at}

-- the test for zero
pub is_zero_by_length : (text : List ℕ) → IsBytes text → is_least text ≡ true → is_not_negative text ≡ true → eqb (length text) 0 ≡ eqb (natural text) 0
unfolding mpint_bytes
is_zero_by_length [] fits least sign = refl
is_zero_by_length (b ∷ text) fits least sign =
    let same = mpint_bytes-natural (b ∷ text) fits least sign in
    elim (cases_lt 0 (natural (b ∷ text))) [
      | inl some ↦ ne_eqb (length (b ∷ text)) 0 (λ e. omega arith) ∙ sym (ne_eqb (natural (b ∷ text)) 0 (λ e. omega arith))
      | inr le ↦ absurd (
          let none : natural (b ∷ text) ≡ 0 = omega arith in
          let empty : mpint_bytes 0 ≡ b ∷ text = ap mpint_bytes (sym none) ∙ same in
          cc)
    ]

-- bytes with a needless leading byte, or with the sign set, are not those of any number
pub not_least_none : (text : List ℕ) → is_least text ≡ false → (n : ℕ) → mpint_bytes n ≡ text → ⊥
not_least_none text needless n e = let yes : is_least text ≡ true = ap is_least (sym e) ∙ (mpint_bytes-are_least n).least in cc

pub negative_none : (text : List ℕ) → is_not_negative text ≡ false → (n : ℕ) → mpint_bytes n ≡ text → ⊥
negative_none text sign n e = let yes : is_not_negative text ≡ true = ap is_not_negative (sym e) ∙ (mpint_bytes-are_least n).sign in cc

-- where a number is refused, no number is spelled
pub mpint_is_refused : (at : Position) (e : WireError) → mpint_at at ≡ Err e → e.place ≡ at.place → IsRefused mpint (λ n. length (mpint_bytes n) < 2 ^ 32) at e at
mpint_is_refused at e h same = record {
  none = λ b. refused_none mpint (λ n. length (mpint_bytes n) < 2 ^ 32) mpint_at mpint_again at e h b.value b.rest b.fits b.begins;
  place = same;
  stays = refl;
}

-- ---- the least bytes are the shortest: no other bytes of that value with a clear sign are fewer

worth-zero_top : (low : List ℕ) → worth (low ++ 0 ∷ []) ≡ worth low
worth-zero_top [] = refl
worth-zero_top (b ∷ low) = ap (λ (n : ℕ). b + 256 * n) (worth-zero_top low)

natural-zero_top : (rest : List ℕ) → natural (0 ∷ rest) ≡ natural rest
natural-zero_top rest = ap worth (reverse-append (0 ∷ []) rest) ∙ worth-zero_top (reverse rest)

-- what follows a needless leading byte has a clear sign
needless : (b : ℕ) (rest : List ℕ) → ltb b 128 ≡ true → is_least (b ∷ rest) ≡ false → (b ≡ 0) × (is_not_negative rest ≡ true)
needless b [] sign not_least =
    elim (cases_lt 0 b) [
      | inl some ↦ absurd (let few : nat_le b 0 ≡ false = lt-leb b 0 some in let both : true ≡ false = sym (rw few refl) ∙ not_least in cc)
      | inr le ↦ (omega arith, refl)
    ]
needless b (c ∷ rest) sign not_least =
    let low : nat_le 255 b ≡ false = lt-leb 255 b (let lt : b < 128 = ltb-true b 128 sign in omega arith) in
    elim (cases_lt 0 b) [
      | inl some ↦ absurd (let few : nat_le b 0 ≡ false = lt-leb b 0 some in let both : true ≡ false = sym (rw (few, low) refl) ∙ not_least in cc)
      | inr le ↦ (
        omega arith,
        elim (cases_lt c 128) [
          | inl lt ↦ lt-ltb c 128 lt
          | inr ge ↦ absurd (let high : nat_lt c 128 ≡ false = le-ltb c 128 ge in let both : true ≡ false = sym (rw (high, low) (either (nat_le b 0))) ∙ not_least in cc)
        ],
      )
    ]
  where
    either : (z : Bool) → not ((z && false) || false) ≡ true
    either true = refl
    either false = refl

pub shortest : (bytes : List ℕ) → IsBytes bytes → is_not_negative bytes ≡ true → length (mpint_bytes (natural bytes)) ≤ length bytes
unfolding mpint_bytes
shortest [] fits sign = omega arith
shortest (b ∷ rest) fits sign = go (shortest rest (λ i. fits (suc i))) (is_least (b ∷ rest)) refl
  where
    go : (is_not_negative rest ≡ true → length (mpint_bytes (natural rest)) ≤ length rest) → (least : Bool) → is_least (b ∷ rest) ≡ least → length (mpint_bytes (natural (b ∷ rest))) ≤ length (b ∷ rest)
    go deep true h = omega (arith, ap length (mpint_bytes-natural (b ∷ rest) fits h sign))
    go deep false h =
        let n = needless b rest sign h in
        let same : natural (b ∷ rest) ≡ natural rest = ap (λ (x : ℕ). natural (x ∷ rest)) n.0 ∙ natural-zero_top rest in
        omega (arith, deep n.1, ap (λ (x : ℕ). length (mpint_bytes x)) same)

-- ---- least bytes are equal where their numbers are

pub same_number : (a b : List ℕ) → IsBytes a → IsBytes b → is_least a ≡ true → is_not_negative a ≡ true → is_least b ≡ true → is_not_negative b ≡ true
    → bytes_eq a b ≡ eqb (natural a) (natural b)
same_number a b a_fits b_fits a_least a_sign b_least b_sign = go (bytes_eq a b) refl
  where
    a-is : mpint_bytes (natural a) ≡ a
    a-is = mpint_bytes-natural a a_fits a_least a_sign

    b-is : mpint_bytes (natural b) ≡ b
    b-is = mpint_bytes-natural b b_fits b_least b_sign

    go : (same : Bool) → bytes_eq a b ≡ same → same ≡ eqb (natural a) (natural b)
    go true h = sym (eq-eqb (natural a) (natural b) (ap natural ((bytes_eq-Decides a b).0 h)))
    go false h = sym (ne_eqb (natural a) (natural b) (λ e. let same : bytes_eq a b ≡ true = (bytes_eq-Decides a b).1 (sym a-is ∙ ap mpint_bytes e ∙ b-is) in let no : true ≡ false = sym same ∙ h in cc))
