-- The dates and times of day that digits give.
use Rattle.ssh_options.proofs.Imports.{◌≡◌, ℕ, ◌+◌, ◌*◌, ◌≤◌, nat_le, Bool, true, false, ◌&&◌, List, [], ◌∷◌, length, refl, sym, subst, arith, ℤ, pos, ◌≤ℤ◌, ◌↔◌, and_parts, and_from, leb-true, le-leb, ints, IsDate, IsTime, days_in_month, form-long, digits_at, year_of, month_of, day_of, hour_of, minute_of, second_of, has_form, is_date, is_time, is_civil_text}

date-true : (y m d : ℕ) → y ≤ 9999 → is_date y m d ≡ true → IsDate (pos y) (pos m) (pos d)
date-true y m d small h =
    let last = and_parts (nat_le 1 m && nat_le m 12 && nat_le 1 d) (nat_le d (days_in_month (pos y) m)) h in
    let third = and_parts (nat_le 1 m && nat_le m 12) (nat_le 1 d) last.0 in
    let first = and_parts (nat_le 1 m) (nat_le m 12) third.0 in
    let a : 1 ≤ m = leb-true 1 m first.0 in
    let b : m ≤ 12 = leb-true m 12 first.1 in
    let c : 1 ≤ d = leb-true 1 d third.1 in
    let e : d ≤ days_in_month (pos y) m = leb-true d (days_in_month (pos y) m) last.1 in
    ((omega (arith, ints), omega (arith, ints)), (omega (arith, ints), omega (arith, ints)), (omega (arith, ints), omega (arith, ints)))

date-from : (y m d : ℕ) → IsDate (pos y) (pos m) (pos d) → is_date y m d ≡ true
date-from y m d is =
    let a : 1 ≤ m = omega (arith, ints, is.1.0) in
    let b : m ≤ 12 = omega (arith, ints, is.1.1) in
    let c : 1 ≤ d = omega (arith, ints, is.2.0) in
    let e : d ≤ days_in_month (pos y) m = omega (arith, ints, is.2.1) in
    and_from (nat_le 1 m && nat_le m 12 && nat_le 1 d) (nat_le d (days_in_month (pos y) m))
    (and_from (nat_le 1 m && nat_le m 12) (nat_le 1 d)
    (and_from (nat_le 1 m) (nat_le m 12) (le-leb 1 m a) (le-leb m 12 b)) (le-leb 1 d c))
    (le-leb d (days_in_month (pos y) m) e)

time-true : (h m s : ℕ) → is_time h m s ≡ true → IsTime (pos h) (pos m) (pos s) (pos 0)
time-true h m s t =
    let last = and_parts (nat_le h 23 && nat_le m 59) (nat_le s 59) t in
    let first = and_parts (nat_le h 23) (nat_le m 59) last.0 in
    let a : h ≤ 23 = leb-true h 23 first.0 in
    let b : m ≤ 59 = leb-true m 59 first.1 in
    let c : s ≤ 59 = leb-true s 59 last.1 in
    ((omega (arith, ints), omega (arith, ints)), (omega (arith, ints), omega (arith, ints)), (omega (arith, ints), omega (arith, ints)), (omega (arith, ints), omega (arith, ints)))

time-from : (h m s : ℕ) → IsTime (pos h) (pos m) (pos s) (pos 0) → is_time h m s ≡ true
time-from h m s is =
    let a : h ≤ 23 = omega (arith, ints, is.0.1) in
    let b : m ≤ 59 = omega (arith, ints, is.1.1) in
    let c : s ≤ 59 = omega (arith, ints, is.2.1) in
    and_from (nat_le h 23 && nat_le m 59) (nat_le s 59) (and_from (nat_le h 23) (nat_le m 59) (le-leb h 23 a) (le-leb m 59 b)) (le-leb s 59 c)

same-tests : (a b : Bool) → (a ≡ true → b ≡ true) → (b ≡ true → a ≡ true) → a ≡ b
same-tests true b f g = sym (f refl)
same-tests false true f g = g refl
same-tests false false f g = refl

-- a date and time exist for the digits exactly where the digits are such a text
pub is-civil : (digits : List ℕ) (found : Bool) → has_form digits ≡ true → year_of digits ≤ 9999
    → (found ≡ true) ↔ (IsDate (pos (year_of digits)) (pos (month_of digits)) (pos (day_of digits))
    × IsTime (pos (hour_of digits)) (pos (minute_of digits)) (pos (second_of digits)) (pos 0))
    → found ≡ is_civil_text digits
is-civil digits found form small is =
    same-tests found (is_civil_text digits)
    (λ f. let parts = is.0 f in
    and_from (has_form digits && is_date (year_of digits) (month_of digits) (day_of digits)) (is_time (hour_of digits) (minute_of digits) (second_of digits))
    (and_from (has_form digits) (is_date (year_of digits) (month_of digits) (day_of digits)) form (date-from (year_of digits) (month_of digits) (day_of digits) parts.0))
    (time-from (hour_of digits) (minute_of digits) (second_of digits) parts.1))
    (λ b. let last = and_parts (has_form digits && is_date (year_of digits) (month_of digits) (day_of digits)) (is_time (hour_of digits) (minute_of digits) (second_of digits)) b in
    let first = and_parts (has_form digits) (is_date (year_of digits) (month_of digits) (day_of digits)) last.0 in
    is.1 (date-true (year_of digits) (month_of digits) (day_of digits) small first.1, time-true (hour_of digits) (minute_of digits) (second_of digits) last.1))

-- the digits of a year are those of its hundreds and of what is left
year-cut : (digits : List ℕ) → 4 ≤ length digits → year_of digits ≡ digits_at digits 0 2 * 100 + digits_at digits 2 2
year-cut [] long = absurd (omega arith)
year-cut (a ∷ []) long = absurd (omega arith)
year-cut (a ∷ b ∷ []) long = absurd (omega arith)
year-cut (a ∷ b ∷ c ∷ []) long = absurd (omega arith)
year-cut (a ∷ b ∷ c ∷ d ∷ rest) long = omega arith

pub year-read : (digits : List ℕ) (hundreds years : ℕ) → has_form digits ≡ true → hundreds ≡ digits_at digits 0 2 → years ≡ digits_at digits 2 2
    → hundreds * 100 + years ≡ year_of digits
year-read digits hundreds years form h y = omega (arith, year-cut digits (form-long digits form), h, y)

-- the numbers that were read from the digits
pub record AreRead (digits : List ℕ) (y m d h mi s : ℤ) : Type 0 where
  pub year_is : y ≡ pos (year_of digits)
  pub year_small : y ≤ℤ pos 9999
  pub month_is : m ≡ pos (month_of digits)
  pub day_is : d ≡ pos (day_of digits)
  pub hour_is : h ≡ pos (hour_of digits)
  pub minute_is : mi ≡ pos (minute_of digits)
  pub second_is : s ≡ pos (second_of digits)

abbrev Exists : Bool → ℤ → ℤ → ℤ → ℤ → ℤ → ℤ → Type 0
Exists found y m d h mi s = (found ≡ true) ↔ (IsDate y m d × IsTime h mi s (pos 0))

moved : (found : Bool) (y y' m m' d d' h h' mi mi' s s' : ℤ) → y ≡ y' → m ≡ m' → d ≡ d' → h ≡ h' → mi ≡ mi' → s ≡ s'
    → Exists found y m d h mi s → Exists found y' m' d' h' mi' s'
moved found y y' m m' d d' h h' mi mi' s s' a b c e f g is =
    subst (λ (n : ℤ). Exists found y' m' d' h' mi' n) g
    (subst (λ (n : ℤ). Exists found y' m' d' h' n s) f
    (subst (λ (n : ℤ). Exists found y' m' d' n mi s) e
    (subst (λ (n : ℤ). Exists found y' m' n h mi s) c
    (subst (λ (n : ℤ). Exists found y' n d h mi s) b
    (subst (λ (n : ℤ). Exists found n m d h mi s) a is)))))

pub is-civil-read : (digits : List ℕ) (found : Bool) (y m d h mi s : ℤ) → has_form digits ≡ true → AreRead digits y m d h mi s
    → Exists found y m d h mi s → found ≡ is_civil_text digits
is-civil-read digits found y m d h mi s form read is =
    is-civil digits found form (omega (arith, ints, read.year_is, read.year_small))
    (moved found y _ m _ d _ h _ mi _ s _ read.year_is read.month_is read.day_is read.hour_is read.minute_is read.second_is is)
