-- Octets in decimal with dots, and their numbers.
use Rattle.ssh_patterns.proofs.Imports.{◌≡◌, ℕ, ◌<◌, ◌≤◌, ◌==◌, Bool, true, false, not, ◌||◌, if◌then◌else◌, nat_lt, List, [], ◌∷◌, ◌++◌, length, get_or, lit≤, decimal, codes, Option, Some, None, option_and_then, refl, sym, ap, ◌∙◌, inl, inr, arith, list_any, list_all, is_digit, digit_value, AllDigits, digits_value, lt-ltb, ltb-true, ltb-false, cases_lt, eqb-true, eq-eqb, ne_eqb, false≢true, length-decimal-le, decimal_is_IsNumeral, decimal_digit, first_decimal, decimal-digits_value, numerals_by_value, tells_digits, AreOctets, dotted, octet_of, octet_before, cut_at, cut_near, number_in_radix, decimal_of, below}
use Rattle.ssh_patterns.specs.AddressReading.{octets_of}
use Rattle.ssh_patterns.proofs.DigitLemmas.{AllDigits-from, below-small}
use Rattle.ssh_patterns.proofs.CutLemmas.{parts-cut}

pub list_all-from : (radix : ℕ) (ds : List ℕ) → AllDigits radix ds → list_all (λ c. is_digit c radix) ds ≡ true
list_all-from radix [] h = refl
list_all-from radix (c ∷ ds) h = rw (lt-ltb (digit_value c) radix h.0) (list_all-from radix ds h.1)

pub number_of-digits : (radix : ℕ) (ds : List ℕ) → AllDigits radix ds → number_in_radix radix ds ≡ Some (digits_value radix ds)
number_of-digits radix ds h = rw (list_all-from radix ds h) refl

number-by : (b : Bool) (n m : ℕ) → (if b then Some n else None) ≡ Some m → (b ≡ true) × (n ≡ m)
number-by true n m h = (refl, cc)
number-by false n m h = cc

pub number_of-some : (radix : ℕ) (ds : List ℕ) (n : ℕ) → number_in_radix radix ds ≡ Some n → AllDigits radix ds × (digits_value radix ds ≡ n)
number_of-some radix ds n h =
    let parts = number-by (list_all (λ c. is_digit c radix) ds) (digits_value radix ds) n h in
    (AllDigits-from radix ds parts.0, parts.1)

-- a byte that is not a digit is not among digits
pub no_byte : (radix byte : ℕ) (ds : List ℕ) → radix ≤ digit_value byte → AllDigits radix ds → list_any (λ c. c == byte) ds ≡ false
no_byte radix byte [] h all = refl
no_byte radix byte (c ∷ ds) h all =
    let other : c ≡ byte → ⊥ = λ e. absurd (omega (arith, ap digit_value e, all.0)) in
    rw (ne_eqb c byte other) (no_byte radix byte ds h all.1)

-- a zero in front is the only digit
abbrev IsAlone : List ℕ → Type 0
IsAlone ds = get_or ds 0 0 ≡ 48 → length ds ≡ 1

pub or_true : (a : Bool) → (a || true) ≡ true
or_true true = refl
or_true false = refl

alone-by : (b : Bool) (c : ℕ) (cs : List ℕ) → (c == 48) ≡ b → (c ≡ 48 → length (c ∷ cs) ≡ 1) → ((length cs == 0) || not b) ≡ true
alone-by true c cs e h =
    let none : length cs ≡ 0 = omega (arith, h (eqb-true c 48 e)) in rw none refl
alone-by false c cs e h = or_true (length cs == 0)

decimal_of-digits : (ds : List ℕ) → AllDigits 10 ds → 0 < length ds → IsAlone ds → decimal_of ds ≡ Some (digits_value 10 ds)
decimal_of-digits [] all some alone = absurd (omega arith)
decimal_of-digits (c ∷ cs) all some alone = rw (alone-by (c == 48) c cs refl alone) (number_of-digits 10 (c ∷ cs) all)

decimal-alone : (a : ℕ) → a < 256 → IsAlone (decimal a)
decimal-alone a small h = elim (cases_lt 0 a) [
  | inl some ↦ absurd (omega (arith, first_decimal a some (omega arith), h))
  | inr none ↦ let zero_is : a ≡ 0 = omega arith in rw zero_is (ap length (decimal_digit 0 (omega arith)))
]

below-by : (b : Bool) (limit n a : ℕ) → nat_lt n limit ≡ b → (if b then Some n else None) ≡ Some a → (n < limit) × (n ≡ a)
below-by true limit n a e h = (ltb-true n limit e, cc)
below-by false limit n a e h = cc

below-some : (limit : ℕ) (o : Option ℕ) (a : ℕ) → below limit o ≡ Some a → (o ≡ Some a) × (a < limit)
below-some limit None a h = cc
below-some limit (Some n) a h =
    let parts = below-by (nat_lt n limit) limit n a refl h in
    (ap (λ m. Some m) parts.1, omega (arith, parts.0, parts.1))

-- what a decimal text is
record IsDecimal (ds : List ℕ) (a : ℕ) : Type 0 where
  all : AllDigits 10 ds
  some : 0 < length ds
  alone : IsAlone ds
  value : digits_value 10 ds ≡ a

one-by : (b : Bool) (c : ℕ) (cs : List ℕ) → (length cs == 0) ≡ b → c ≡ 48 → (b || not (c == 48)) ≡ true → length (c ∷ cs) ≡ 1
one-by true c cs e zero_first h = omega (arith, eqb-true (length cs) 0 e)
one-by false c cs e zero_first h = let same = eq-eqb c 48 zero_first in absurd (false≢true (sym (ap not same) ∙ h))

lead-by : (b : Bool) (c : ℕ) (cs : List ℕ) (a : ℕ) → ((length cs == 0) || not (c == 48)) ≡ b
    → (if b then number_in_radix 10 (c ∷ cs) else None) ≡ Some a → IsDecimal (c ∷ cs) a
lead-by true c cs a e h =
    let number = number_of-some 10 (c ∷ cs) a h in
    record {
      all = number.0;
      some = omega arith;
      alone = λ zero_first. one-by (length cs == 0) c cs refl zero_first e;
      value = number.1;
    }
lead-by false c cs a e h = cc

decimal_of-some : (ds : List ℕ) (a : ℕ) → decimal_of ds ≡ Some a → IsDecimal ds a
decimal_of-some [] a h = cc
decimal_of-some (c ∷ cs) a h = lead-by ((length cs == 0) || not (c == 48)) c cs a refl h

pub limited-decimal : (limit a : ℕ) → limit ≤ 256 → a < limit → below limit (decimal_of (decimal a)) ≡ Some a
limited-decimal limit a most small =
    let numeral = decimal_is_IsNumeral a (omega arith) in
    rw (decimal_of-digits (decimal a) numeral.0.1 numeral.0.0 (decimal-alone a (omega arith)), numeral.1) (below-small limit a small)

pub octet_of-decimal : (a : ℕ) → a < 256 → octet_of (decimal a) ≡ Some a
octet_of-decimal a small = limited-decimal 256 a (omega arith) small

pub limited-some : (limit : ℕ) (ds : List ℕ) (a : ℕ) → limit ≤ 256 → below limit (decimal_of ds) ≡ Some a → (a < limit) × (ds ≡ decimal a)
limited-some limit ds a most h =
    let read = below-some limit (decimal_of ds) a h in
    let is = decimal_of-some ds a read.0 in (
      read.1,
      sym (decimal-digits_value (numerals_by_value (AllDigits 10) tells_digits) ds is.all is.some is.alone (omega (arith, is.value, read.1)))
          ∙ ap decimal is.value,
    )

pub octet_of-some : (ds : List ℕ) (a : ℕ) → octet_of ds ≡ Some a → (a < 256) × (ds ≡ decimal a)
octet_of-some ds a h = limited-some 256 ds a (omega arith) h

pub neither : (a b : Bool) → (a || b) ≡ false → (a ≡ false) × (b ≡ false)
neither true b h = cc
neither false b h = (refl, h)

-- where the front has no such byte, the cut is after it
pub cut_at-front : (byte : ℕ) (front back : List ℕ) → list_any (λ c. c == byte) front ≡ false
    → cut_at (byte ∷ []) (front ++ byte ∷ back) ≡ Some (front, back)
cut_at-front byte [] back h = rw (eq-eqb byte byte refl) refl
cut_at-front byte (c ∷ front) back h =
    let parts = neither (c == byte) (list_any (λ c. c == byte) front) h in
    rw (parts.0, cut_at-front byte front back parts.1) refl

pub decimal-has_no : (byte a : ℕ) → 10 ≤ digit_value byte → a < 256 → list_any (λ c. c == byte) (decimal a) ≡ false
decimal-has_no byte a other small = no_byte 10 byte (decimal a) other (decimal_is_IsNumeral a (omega arith)).0.1

dot_after : (a : ℕ) (rest : List ℕ) → a < 256 → cut_at (codes ".") (decimal a ++ 46 ∷ rest) ≡ Some (decimal a, rest)
dot_after a rest small = cut_at-front 46 (decimal a) rest (decimal-has_no 46 a (lit≤ tt) small)

-- the octets of a dotted text
pub octets_of-dotted : (octets : List ℕ) → AreOctets octets → octets_of (dotted octets) ≡ Some octets
unfolding octets_of
octets_of-dotted (a ∷ b ∷ c ∷ d ∷ []) (len, (ha, (hb, (hc, (hd, _))))) =
    rw (
      dot_after a (decimal b ++ 46 ∷ (decimal c ++ 46 ∷ decimal d)) ha,
      dot_after b (decimal c ++ 46 ∷ decimal d) hb,
      dot_after c (decimal d) hc,
      octet_of-decimal a ha,
      octet_of-decimal b hb,
      octet_of-decimal c hc,
      octet_of-decimal d hd,
    ) refl
octets_of-dotted [] h = absurd (omega (arith, h.0))
octets_of-dotted (a ∷ []) h = absurd (omega (arith, h.0))
octets_of-dotted (a ∷ b ∷ []) h = absurd (omega (arith, h.0))
octets_of-dotted (a ∷ b ∷ c ∷ []) h = absurd (omega (arith, h.0))
octets_of-dotted (a ∷ b ∷ c ∷ d ∷ e ∷ more) h = absurd (omega (arith, h.0))

pub and_then-some : {A B : Type 0} (o : Option A) (f : A → Option B) (b : B) → option_and_then f o ≡ Some b
    → (a : A) × (o ≡ Some a) × (f a ≡ Some b)
and_then-some None f b h = cc
and_then-some (Some a) f b h = (a, refl, h)

pub some-is : {A : Type 0} {x y : A} → Some x ≡ Some y → x ≡ y
some-is {A} {x} {y} h = cc

joined : (text f1 r1 f2 r2 f3 r3 a b c d : List ℕ) → text ≡ f1 ++ 46 ∷ r1 → r1 ≡ f2 ++ 46 ∷ r2 → r2 ≡ f3 ++ 46 ∷ r3
    → f1 ≡ a → f2 ≡ b → f3 ≡ c → r3 ≡ d → text ≡ a ++ 46 ∷ (b ++ 46 ∷ (c ++ 46 ∷ d))
joined text f1 r1 f2 r2 f3 r3 a b c d h1 h2 h3 ea eb ec ed = cc

pub octets_of-some : (text octets : List ℕ) → octets_of text ≡ Some octets → AreOctets octets × (text ≡ dotted octets)
unfolding octets_of
octets_of-some text octets h =
    let first = and_then-some (cut_at (codes ".") text) _ octets h in
    let second = and_then-some (cut_at (codes ".") first.0.1) _ octets first.2 in
    let third = and_then-some (cut_at (codes ".") second.0.1) _ octets second.2 in
    let a = and_then-some (octet_of first.0.0) _ octets third.2 in
    let b = and_then-some (octet_of second.0.0) _ octets a.2 in
    let c = and_then-some (octet_of third.0.0) _ octets b.2 in
    let d = and_then-some (octet_of third.0.1) _ octets c.2 in
    let is : a.0 ∷ b.0 ∷ c.0 ∷ d.0 ∷ [] ≡ octets = some-is d.2 in
    let as_a = octet_of-some first.0.0 a.0 a.1 in
    let as_b = octet_of-some second.0.0 b.0 b.1 in
    let as_c = octet_of-some third.0.0 c.0 c.1 in
    let as_d = octet_of-some third.0.1 d.0 d.1 in
    let whole : text ≡ dotted (a.0 ∷ b.0 ∷ c.0 ∷ d.0 ∷ []) =
    joined text first.0.0 first.0.1 second.0.0 second.0.1 third.0.0 third.0.1 (decimal a.0) (decimal b.0) (decimal c.0) (decimal d.0)
    (parts-cut 46 text first.0.0 first.0.1 first.1).whole (parts-cut 46 first.0.1 second.0.0 second.0.1 second.1).whole
    (parts-cut 46 second.0.1 third.0.0 third.0.1 third.1).whole as_a.1 as_b.1 as_c.1 as_d.1 in
    rw (← is) ((refl {a = 4}, (as_a.0, (as_b.0, (as_c.0, (as_d.0, tt))))), whole)

-- ---- an octet near the front

small-octet : (o : ℕ) → o < 256 → length (decimal o) ≤ 3
small-octet o h = length-decimal-le 3 o (omega arith) (omega arith) (omega arith)

long-by : (ds : List ℕ) (o : Option ℕ) → octet_of ds ≡ o → 4 ≤ length ds → o ≡ None
long-by ds None e long = refl
long-by ds (Some o) e long =
    let is = octet_of-some ds o e in
    absurd (omega (arith, small-octet o is.0, ap length is.1))

-- the octet before a cut, and what follows it
abbrev then_octet : List ℕ × List ℕ → Option (ℕ × List ℕ)
then_octet cut = option_and_then {U = ℕ × List ℕ} (λ o. Some (o, cut.1)) (octet_of cut.0)

near-by : (b : Bool) (cut : List ℕ × List ℕ) → nat_lt (length cut.0) 4 ≡ b
    → option_and_then then_octet (if b then Some cut else None) ≡ then_octet cut
near-by true cut e = refl
near-by false cut e = rw (long-by cut.0 (octet_of cut.0) refl (ltb-false (length cut.0) 4 e)) refl

octet-by : (cut : Option (List ℕ × List ℕ))
    → option_and_then then_octet (option_and_then (λ (c : List ℕ × List ℕ). if nat_lt (length c.0) 4 then Some c else None) cut)
    ≡ option_and_then then_octet cut
octet-by None = refl
octet-by (Some cut) = near-by (nat_lt (length cut.0) 4) cut refl

-- where no such byte is near, there is no octet before one
pub no-octet : (mark : ℕ) (text : List ℕ) → cut_near 4 (mark ∷ []) text ≡ None → None ≡ octet_before mark text
no-octet mark text h = sym (ap (option_and_then then_octet) h) ∙ octet-by (cut_at (mark ∷ []) text)

pub octet_before-some : (mark : ℕ) (text : List ℕ) (read : ℕ × List ℕ) → octet_before mark text ≡ Some read
    → (read.0 < 256) × (text ≡ decimal read.0 ++ mark ∷ read.1)
octet_before-some mark text read h =
    let cut = and_then-some (cut_at (mark ∷ []) text) _ read h in
    let octet = and_then-some (octet_of cut.0.0) _ read cut.2 in
    let is : (octet.0, cut.0.1) ≡ read = some-is octet.2 in
    let digits = octet_of-some cut.0.0 octet.0 octet.1 in
    rw (← is) (digits.0, (parts-cut mark text cut.0.0 cut.0.1 cut.1).whole ∙ ap (λ s. s ++ mark ∷ cut.0.1) digits.1)
