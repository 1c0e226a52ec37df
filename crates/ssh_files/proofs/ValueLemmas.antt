-- Steps of reading values.
use Rattle.ssh_files.proofs.Imports.{inl, inr, ◌≡◌, ◌∙◌, ◌⊎◌, ◌+◌, ◌*◌, ◌%◌, ◌^◌, ◌<◌, ◌≤◌, ◌&&◌, ◌==◌, if◌then◌else◌, nat_lt, nat_le, ℕ, Bool, true, false, cond, List, [], ◌∷◌, length, Option, Some, None, Result, Ok, Err, refl, sym, ap, arith, OkIff, list_all, digit_value, result_ok, AllDigits, IsNumeral, ParsesUnsigned, digits_value, without_leading_plus, and_parts, eqb-true, ltb-true, lt-ltb, leb-true, ne_eqb, FromHexError, OddLength, OutOfMemory, decode_of, digit_or_error, ◌>>=◌, hex_value, pair_value, pair_values, prepend, is_digit, number_below}
use Rattle.hex.specs.Hex.{decode_pairs}

-- ---- hexadecimal

-- one more pair of digits, as the kit's hex reads it
pair-same : (high low : Option ℕ) (a b i : ℕ) (rest : Result (List ℕ) FromHexError)
    → result_ok ((digit_or_error a i high >>= (λ h. digit_or_error b (i + 1) low >>= (λ l. Ok (h * 16 + l)))) >>= (λ byte. rest >>= (λ bytes. Ok (byte ∷ bytes))))
    ≡ prepend (pair_value high low) (result_ok rest)
pair-same None low a b i rest = refl
pair-same (Some h) None a b i rest = refl
pair-same (Some h) (Some l) a b i (Err e) = refl
pair-same (Some h) (Some l) a b i (Ok bytes) =
    let same : h * 16 + l ≡ 16 * h + l = omega arith in
    ap (λ (n : ℕ). Some (n ∷ bytes)) same

pairs-same : (i : ℕ) (text : List ℕ) → result_ok (decode_pairs i text) ≡ pair_values text
unfolding decode_pairs
pairs-same i [] = refl
pairs-same i (a ∷ []) = refl
pairs-same i (a ∷ b ∷ rest) =
    pair-same (hex_value a) (hex_value b) a b i (decode_pairs (i + 2) rest) ∙ ap (prepend (pair_value (hex_value a) (hex_value b))) (pairs-same (i + 2) rest)

prepend-none : (o : Option ℕ) → prepend o None ≡ None
prepend-none None = refl
prepend-none (Some x) = refl

odd-none : (text : List ℕ) → length text % 2 ≡ 1 → pair_values text ≡ None
odd-none [] h = absurd (omega arith)
odd-none (a ∷ []) h = refl
odd-none (a ∷ b ∷ rest) h = rw (odd-none rest (omega arith)) (prepend-none (pair_value (hex_value a) (hex_value b)))

decoded-by : (odd : Bool) (text : List ℕ) → (length text % 2 == 1) ≡ odd → result_ok (if odd then Err OddLength else decode_pairs 0 text) ≡ pair_values text
decoded-by true text h = sym (odd-none text (eqb-true (length text % 2) 1 h))
decoded-by false text h = pairs-same 0 text

-- the kit's hex reads pairs of digits
pub decoded-same : (text : List ℕ) → result_ok (decode_of text) ≡ pair_values text
decoded-same text = decoded-by (length text % 2 == 1) text refl

-- a text that is refused, unless memory cannot be allocated, has no bytes
pub undecoded : (text : List ℕ) (e : FromHexError) → (e ≡ OutOfMemory → ⊥) → (e ≡ OutOfMemory) ⊎ (decode_of text ≡ Err e) → None ≡ pair_values text
undecoded text e other (inl memory) = absurd (other memory)
undecoded text e other (inr refused) = ap result_ok (sym refused) ∙ decoded-same text

-- ---- numbers

digit-fits : (c : ℕ) → is_digit c ≡ true → digit_value c < 10
digit-fits c h =
    let parts = and_parts (nat_le 48 c) (nat_le c 57) h in
    let low : 48 ≤ c = leb-true 48 c parts.0 in
    let high : c ≤ 57 = leb-true c 57 parts.1 in
    grind arith

all-digits : (text : List ℕ) → list_all is_digit text ≡ true → AllDigits 10 text
all-digits [] h = tt
all-digits (c ∷ cs) h =
    let parts = and_parts (is_digit c) (list_all is_digit cs) h in
    (digit-fits c parts.0, all-digits cs parts.1)

digit-no_plus : (c : ℕ) → is_digit c ≡ true → (c == 43) ≡ false
digit-no_plus c h =
    let parts = and_parts (nat_le 48 c) (nat_le c 57) h in
    let low : 48 ≤ c = leb-true 48 c parts.0 in
    ne_eqb c 43 (λ e. omega arith)

no_plus : (text : List ℕ) → list_all is_digit text ≡ true → without_leading_plus text ≡ text
no_plus [] h = refl
no_plus (c ∷ cs) h = rw (digit-no_plus c (and_parts (is_digit c) (list_all is_digit cs) h).0) refl

abbrev number_by : Bool → Bool → Bool → ℕ → Option ℕ
number_by some digits small n = cond (some && (digits && small)) (Some n) None

parsed-ok : (text : List ℕ) (n : ℕ) → list_all is_digit text ≡ true → IsNumeral 10 text × (digits_value 10 text < 2 ^ 64) → n ≡ digits_value 10 text
    → Some n ≡ number_below (2 ^ 64) text
parsed-ok text n d p e =
    rw (e, d, lt-ltb 0 (length text) p.0.0, lt-ltb (digits_value 10 text) (2 ^ 64) p.1) refl

parsed-err : (text : List ℕ) → list_all is_digit text ≡ true → (IsNumeral 10 text × (digits_value 10 text < 2 ^ 64) → ⊥)
    → (some small : Bool) → nat_lt 0 (length text) ≡ some → nat_lt (digits_value 10 text) (2 ^ 64) ≡ small → None ≡ number_by some true small (digits_value 10 text)
parsed-err text d no_number true true s f = absurd (no_number ((ltb-true 0 (length text) s, all-digits text d), ltb-true (digits_value 10 text) (2 ^ 64) f))
parsed-err text d no_number true false s f = refl
parsed-err text d no_number false true s f = refl
parsed-err text d no_number false false s f = refl

digits-parsed : {E : Type 0} (text : List ℕ) (r : Result ℕ E) → list_all is_digit text ≡ true
    → OkIff r (IsNumeral 10 text × (digits_value 10 text < 2 ^ 64)) (digits_value 10 text) → result_ok r ≡ number_below (2 ^ 64) text
digits-parsed text (Ok n) d p = parsed-ok text n d p.0 p.1
digits-parsed text (Err e) d p = rw d (parsed-err text d p (nat_lt 0 (length text)) (nat_lt (digits_value 10 text) (2 ^ 64)) refl refl)

-- digits are read as their number
pub number_parsed : {E : Type 0} (text : List ℕ) (r : Result ℕ E) → list_all is_digit text ≡ true → ParsesUnsigned 64 10 text r → result_ok r ≡ number_below (2 ^ 64) text
number_parsed text r d p = digits-parsed text r d (rw (no_plus text d) at p)

-- other texts are no numbers
pub number_refused : (text : List ℕ) → list_all is_digit text ≡ false → None ≡ number_below (2 ^ 64) text
number_refused text d = rw d (none-by (nat_lt 0 (length text)))
  where
    none-by : (some : Bool) → None ≡ number_by some false (nat_lt (digits_value 10 text) (2 ^ 64)) (digits_value 10 text)
    none-by true = refl
    none-by false = refl
