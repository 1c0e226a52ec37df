-- How many binary digits a number has, from its bytes.
use Rattle.ssh_keys.proofs.Imports.{◌≡◌, ℕ, zero, suc, ◌+◌, ◌-◌, ◌*◌, ◌^◌, ◌<◌, ◌≤◌, true, false, List, [], ◌∷◌, ◌++◌, length, reverse, take, drop, get_or, ◌⊎◌, refl, sym, ap, subst, ◌∙◌, arith, inl, inr, nat_lt, count_leading_zeros, leading_of_zero, mul-le-mul_left, pow-le-pow_right, pow-succ', cases_lt, lt-ltb, reverse-append, length-reverse, length-take, pow-add, leading_top, worth, natural, is_least, IsBytes, IsBytes-reverse, IsBitCount}

-- ---- bytes in front of others, and how large bytes can be

worth-append : (low : List ℕ) (b : ℕ) → worth (low ++ b ∷ []) ≡ worth low + b * 256 ^ length low
worth-append [] b = omega arith
worth-append (x ∷ low) b = omega (arith, worth-append low b, ap (λ (k : ℕ). b * k) (pow-succ' 256 (length low)))

worth_below : (low : List ℕ) → IsBytes low → worth low < 256 ^ length low
worth_below [] fits = omega arith
worth_below (x ∷ low) fits =
    let byte : x < 256 = fits 0 in
    omega (arith, byte, worth_below low (λ i. fits (suc i)), pow-succ' 256 (length low))

natural-cons : (b : ℕ) (rest : List ℕ) → natural (b ∷ rest) ≡ natural rest + b * 256 ^ length rest
natural-cons b rest =
    ap worth (reverse-append (b ∷ []) rest) ∙ worth-append (reverse rest) b ∙ ap (λ (n : ℕ). natural rest + b * 256 ^ n) (length-reverse rest)

natural_below : (rest : List ℕ) → IsBytes rest → natural rest < 256 ^ length rest
natural_below rest fits = subst (λ (n : ℕ). natural rest < 256 ^ n) (length-reverse rest) (worth_below (reverse rest) (IsBytes-reverse rest fits))

bytes-bits : (n : ℕ) → 256 ^ n ≡ 2 ^ (n * 8)
bytes-bits zero = refl
bytes-bits (suc n) =
    let split : 2 ^ (8 + n * 8) ≡ 2 ^ 8 * 2 ^ (n * 8) = pow-add 2 8 (n * 8) in
    let same : suc n * 8 ≡ 8 + n * 8 = omega arith in
    omega (arith, pow-succ' 256 n, bytes-bits n, split, ap (λ (k : ℕ). 2 ^ k) same)

-- ---- the count

-- the highest digit is not zero
counted : (n m bits : ℕ) → suc m ≡ bits → n < 2 ^ bits → 2 ^ m ≤ n → IsBitCount n bits
counted n m bits top fits high = record {
  fits = fits;
  least = λ k lt. elim (cases_lt k bits) [
    | inl small ↦ absurd (let low : 2 ^ k ≤ 2 ^ m = pow-le-pow_right (omega arith) (omega arith) in omega arith)
    | inr ge ↦ ge
  ];
}

-- over so many further bytes
counted_above : (n rest b above j l : ℕ) → n ≡ rest + b * above → above ≡ 2 ^ (l * 8) → rest < above → 2 ^ j ≤ b → b < 2 ^ suc j → IsBitCount n (l * 8 + suc j)
counted_above n rest b above j l is size below high low =
    let wide : 2 ^ (l * 8 + suc j) ≡ above * 2 ^ suc j = pow-add 2 (l * 8) (suc j) ∙ ap (λ (k : ℕ). k * 2 ^ suc j) (sym size) in
    let narrow : 2 ^ (l * 8 + j) ≡ above * 2 ^ j = pow-add 2 (l * 8) j ∙ ap (λ (k : ℕ). k * 2 ^ j) (sym size) in
    let under : above * (b + 1) ≤ above * 2 ^ suc j = mul-le-mul_left above (omega arith) in
    let over : above * 2 ^ j ≤ above * b = mul-le-mul_left above high in
    counted n (l * 8 + j) (l * 8 + suc j) (omega arith) (omega arith) (omega arith)

-- after a leading 00 the sign bit is set
after_zero : (c : ℕ) (rest : List ℕ) → is_least (0 ∷ c ∷ rest) ≡ true → 128 ≤ c
after_zero c rest least = elim (cases_lt c 128) [
  | inl lt ↦ absurd (let small : nat_lt c 128 ≡ true = lt-ltb c 128 lt in let none : false ≡ true = sym (rw small refl) ∙ least in cc)
  | inr ge ↦ ge
]

-- a first byte above zero
some_first : (b : ℕ) (rest : List ℕ) → IsBytes (b ∷ rest) → 0 < b → IsBitCount (natural (b ∷ rest)) (length rest * 8 + (8 - count_leading_zeros 8 b))
some_first b rest fits lt =
    let byte : b < 2 ^ 8 = fits 0 in
    let top = leading_top 8 b lt byte in
    let count : 8 - count_leading_zeros 8 b ≡ suc top.0 = omega (arith, top.1) in
    subst (λ (k : ℕ). IsBitCount (natural (b ∷ rest)) (length rest * 8 + k)) (sym count)
    (counted_above (natural (b ∷ rest)) (natural rest) b (256 ^ length rest) top.0 (length rest) (natural-cons b rest) (bytes-bits (length rest)) (natural_below rest (λ i. fits (suc i))) top.2 top.3)

-- a first byte that is there for the sign alone
zero_first : (rest : List ℕ) → IsBytes (0 ∷ rest) → is_least (0 ∷ rest) ≡ true → IsBitCount (natural (0 ∷ rest)) (length rest * 8 + (8 - count_leading_zeros 8 0))
zero_first [] fits least = absurd cc
zero_first (c ∷ rest) fits least =
    let high : 128 ≤ c = after_zero c rest least in
    let byte : c < 256 = fits 1 in
    let same : natural (0 ∷ c ∷ rest) ≡ natural rest + c * 256 ^ length rest = omega (arith, natural-cons 0 (c ∷ rest), natural-cons c rest) in
    let count : length rest * 8 + suc 7 ≡ length (c ∷ rest) * 8 + (8 - count_leading_zeros 8 0) = omega (arith, leading_of_zero 8) in
    subst (λ (k : ℕ). IsBitCount (natural (0 ∷ c ∷ rest)) k) count
    (counted_above (natural (0 ∷ c ∷ rest)) (natural rest) c (256 ^ length rest) 7 (length rest) same (bytes-bits (length rest)) (natural_below rest (λ i. fits (suc (suc i)))) high byte)

-- the bits of a first byte, and eight for each byte after it
pub bits_of_bytes : (bytes : List ℕ) → 1 ≤ length bytes → IsBytes bytes → is_least bytes ≡ true
    → IsBitCount (natural bytes) (length (take (length bytes - 1) (drop 1 bytes)) * 8 + (8 - count_leading_zeros 8 (get_or bytes 0 0)))
bits_of_bytes [] len fits least = absurd (omega arith)
bits_of_bytes (b ∷ rest) len fits least =
    let following : length (take (length (b ∷ rest) - 1) rest) ≡ length rest = omega (arith, length-take (length (b ∷ rest) - 1) rest) in
    subst (λ (k : ℕ). IsBitCount (natural (b ∷ rest)) (k * 8 + (8 - count_leading_zeros 8 b))) (sym following) (go b fits least (cases_lt 0 b))
  where
    go : (b : ℕ) → IsBytes (b ∷ rest) → is_least (b ∷ rest) ≡ true → (0 < b) ⊎ (b ≤ 0) → IsBitCount (natural (b ∷ rest)) (length rest * 8 + (8 - count_leading_zeros 8 b))
    go zero f l w = zero_first rest f l
    go (suc b) f l w = some_first (suc b) rest f (omega arith)
