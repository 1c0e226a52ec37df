-- Numbers in digits, as a loop over the bytes reads them.
use Rattle.ssh_patterns.proofs.Imports.{◌≡◌, ℕ, ◌+◌, ◌*◌, ◌^◌, ◌<◌, ◌≤◌, Bool, true, false, if◌then◌else◌, List, [], ◌∷◌, length, drop, get_or, Option, Some, None, refl, sym, add-one, arith, drop-cons, mul-le-mul_left, pow-le-pow_right, lt-ltb, le-ltb, ltb-true, le-leb, and_parts, list_all, is_digit, digit_value, digits_value, digits_value_after, AllDigits, digits_value-lt, number_in_radix, below}
use Rattle.ssh_patterns.specs.AddressReading.{group_of}

-- the number that these digits spell after those of n
abbrev pub number_after : ℕ → ℕ → List ℕ → Option ℕ
number_after radix n ds = if list_all (λ c. is_digit c radix) ds then Some (digits_value_after radix n ds) else None

pub number_after-digit : (radix n c : ℕ) (ds : List ℕ) → digit_value c < radix
    → number_after radix n (c ∷ ds) ≡ number_after radix (n * radix + digit_value c) ds
number_after-digit radix n c ds h = rw (lt-ltb (digit_value c) radix h) refl

no-less : (radix n : ℕ) (ds : List ℕ) → 1 ≤ radix → n ≤ digits_value_after radix n ds
no-less radix n [] h = omega arith
no-less radix n (c ∷ ds) h =
    omega (arith, mul-le-mul_left {m = 1} {n = radix} n h, no-less radix (n * radix + digit_value c) ds h)

large-by : (b : Bool) (limit m : ℕ) → limit ≤ m → below limit (if b then Some m else None) ≡ None
large-by true limit m h = rw (le-ltb m limit h) refl
large-by false limit m h = refl

-- a number that has passed the limit does not fall below it again
pub number_after-large : (radix limit n : ℕ) (ds : List ℕ) → 1 ≤ radix → limit ≤ n → below limit (number_after radix n ds) ≡ None
number_after-large radix limit n ds some h =
    large-by (list_all (λ c. is_digit c radix) ds) limit (digits_value_after radix n ds) (omega (arith, no-less radix n ds some))

-- the next byte of a text, in these terms
pub number_after-at : (radix n i : ℕ) (text : List ℕ) → i < length text
    → number_after radix n (drop i text) ≡ number_after radix n (get_or text i 0 ∷ drop (i + 1) text)
number_after-at radix n i text h = rw (add-one, drop-cons text i 0 h) refl

pub below-small : (limit n : ℕ) → n < limit → below limit (Some n) ≡ Some n
below-small limit n h = rw (lt-ltb n limit h) refl

-- the next digit takes the number past the limit
pub past-limit : (radix limit n i d : ℕ) (text : List ℕ) → 1 ≤ radix → i < length text
    → digit_value (get_or text i 0) < radix → d ≡ digit_value (get_or text i 0) → limit ≤ n * radix + d
    → below limit (number_after radix n (drop i text)) ≡ None
past-limit radix limit n i d text some inside digit is past =
    rw (number_after-at radix n i text inside, number_after-digit radix n (get_or text i 0) (drop (i + 1) text) digit)
    (number_after-large radix limit (n * radix + digit_value (get_or text i 0)) (drop (i + 1) text) some (omega arith))

pub AllDigits-from : (radix : ℕ) (ds : List ℕ) → list_all (λ c. is_digit c radix) ds ≡ true → AllDigits radix ds
AllDigits-from radix [] h = tt
AllDigits-from radix (c ∷ ds) h =
    let parts = and_parts (is_digit c radix) (list_all (λ c. is_digit c radix) ds) h in
    (ltb-true (digit_value c) radix parts.0, AllDigits-from radix ds parts.1)

below-by : (b : Bool) (limit n : ℕ) → (b ≡ true → n < limit)
    → below limit (if b then Some n else None) ≡ (if b then Some n else None)
below-by true limit n h = below-small limit n (h refl)
below-by false limit n h = refl

-- four hexadecimal digits spell less than a group may be
hexadecimal-fits : (ds : List ℕ) → length ds ≤ 4 → below 65536 (number_in_radix 16 ds) ≡ number_in_radix 16 ds
hexadecimal-fits ds few =
    below-by (list_all (λ c. is_digit c 16) ds) 65536 (digits_value 16 ds)
    (λ all. let small = digits_value-lt 16 ds (AllDigits-from 16 ds all) in
    let most : 16 ^ length ds ≤ 16 ^ 4 = pow-le-pow_right (omega arith) few in
    omega arith)

pub group-below : (ds : List ℕ) → 1 ≤ length ds → length ds ≤ 4 → group_of ds ≡ below 65536 (number_in_radix 16 ds)
unfolding group_of
group-below ds some few =
    rw (le-leb 1 (length ds) some, le-leb (length ds) 4 few) (sym (hexadecimal-fits ds few))
