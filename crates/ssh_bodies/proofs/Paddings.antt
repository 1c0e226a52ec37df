-- Padding: how long it is, how much is least, and which bytes are padding.
use Rattle.ssh_bodies.proofs.Imports.{◌≡◌, ◌≢◌, ℕ, zero, suc, ◌+◌, ◌-◌, ◌%◌, ◌<◌, ◌≤◌, Bool, true, false, List, [], ◌∷◌, length, get_or, take, refl, sym, ap, ◌∙◌, arith, ◌==◌, bytes_eq, eqb-true, eqb-false, ext_get_or, bytes_eq-Decides, padding_after, padding}

pub padding-length : (n count : ℕ) → length (padding_after n count) ≡ count
padding-length n zero = refl
padding-length n (suc count) = ap suc (padding-length (n + 1) count)

pub padding-get : (n count i : ℕ) → i < count → get_or (padding_after n count) i 0 ≡ n + i + 1
padding-get n zero i lt = absurd (let no_less : ⊥ = omega (arith, lt) in no_less)
padding-get n (suc count) zero lt = omega arith
padding-get n (suc count) (suc i) lt = padding-get (n + 1) count i (omega (arith, lt)) ∙ (let e : n + 1 + i + 1 ≡ n + suc i + 1 = omega arith in e)

pub padding-take : (n count more : ℕ) → take count (padding_after n (count + more)) ≡ padding_after n count
padding-take n zero more = refl
padding-take n (suc count) more = let e : suc count + more ≡ suc (count + more) = omega arith in rw e (ap (λ (t : List ℕ). (n + 1) ∷ t) (padding-take (n + 1) count more))

-- the first of seven bytes of padding
pub padding-seven : (count : ℕ) → count ≤ 7 → take count (1 ∷ 2 ∷ 3 ∷ 4 ∷ 5 ∷ 6 ∷ 7 ∷ []) ≡ padding count
padding-seven count few =
    let all : 7 ≡ count + (7 - count) = omega (arith, few) in
    ap (λ (n : ℕ). take count (padding_after 0 n)) all ∙ padding-take 0 count (7 - count)

-- the bytes count up
abbrev pub CountUp : List ℕ → ℕ → Type 0
CountUp bytes len = (i : ℕ) → i < len → get_or bytes i 0 ≡ i + 1

pub counts_up : (bytes : List ℕ) → CountUp bytes (length bytes) → bytes_eq bytes (padding (length bytes)) ≡ true
counts_up bytes up =
    (bytes_eq-Decides bytes (padding (length bytes))).1
    (ext_get_or 0 bytes (padding (length bytes)) (sym (padding-length 0 (length bytes))) (λ i lt. up i lt ∙ (let e : i + 1 ≡ 0 + i + 1 = omega arith in e) ∙ sym (padding-get 0 (length bytes) i lt)))

pub counts_not : (bytes : List ℕ) (i : ℕ) → i < length bytes → get_or bytes i 0 ≢ i + 1 → bytes_eq bytes (padding (length bytes)) ≡ false
counts_not bytes i lt other = go (bytes_eq bytes (padding (length bytes))) refl
  where
    go : (b : Bool) → bytes_eq bytes (padding (length bytes)) ≡ b → b ≡ false
    go false e = refl
    go true e =
        let same : bytes ≡ padding (length bytes) = (bytes_eq-Decides bytes (padding (length bytes))).0 e in
        absurd (other (ap (λ (t : List ℕ). get_or t i 0) same ∙ padding-get 0 (length bytes) i lt ∙ (let e : 0 + i + 1 ≡ i + 1 = omega arith in e)))

pub count_more : (bytes : List ℕ) (n : ℕ) → CountUp bytes n → get_or bytes n 0 ≡ n + 1 → CountUp bytes (n + 1)
count_more bytes n up here i lt = go (i == n) refl
  where
    go : (b : Bool) → (i == n) ≡ b → get_or bytes i 0 ≡ i + 1
    go true e = let same : i ≡ n = eqb-true i n e in ap (λ (k : ℕ). get_or bytes k 0) same ∙ here ∙ ap (λ (k : ℕ). k + 1) (sym same)
    go false e = let other : i ≢ n = eqb-false i n e in up i (omega (arith, lt, other))

-- ---- the least padding

abbrev pub least : ℕ → ℕ
least len = (8 - len % 8) % 8

pub least_whole : (len : ℕ) → (len + least len) % 8 ≡ 0
least_whole len = omega arith

pub least_few : (len : ℕ) → least len ≤ 7
least_few len = omega arith

pub least_least : (len count : ℕ) → (len + count) % 8 ≡ 0 → least len ≤ count
least_least len count whole = omega (arith, whole)
