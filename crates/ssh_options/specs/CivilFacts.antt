-- The ranges of digits that give a date and a time of day.
use Rattle.std.proofs.Common.{◌≡◌, ℕ, ◌<◌, ◌≤◌, nat_le, true, ◌&&◌, List, [], ◌∷◌, length, arith, inl, inr}
use Rattle.std.specs.Prelude.{pos, ◌||◌, ◌==◌}
use Rattle.std.specs.Int.{IsInRange}
use Rattle.std.specs.List.{list_all}
use Rattle.std.specs.Char.{is_ascii_digit, digit_value}
use Rattle.std.proofs.lemmas.Bool.{and_parts, or_cases, eqb-true, leb-true}
use Rattle.std.proofs.lemmas.Int.{ints}
use Rattle.std.proofs.lemmas.Str.{digit_value_digit}
use Rattle.jiff.specs.Words.{IsYear, days_in_month}
use Rattle.ssh_options.specs.Expiry.{year_of, month_of, day_of, hour_of, minute_of, second_of, has_form, is_date, is_time, is_civil_text}

pub record CivilFacts (digits : List ℕ) : Type 0 where
  pub year : IsYear (pos (year_of digits))
  pub month : IsInRange 1 12 (month_of digits)
  pub day : IsInRange 1 (days_in_month (pos (year_of digits)) (month_of digits)) (day_of digits)
  pub hour : hour_of digits < 24
  pub minute : minute_of digits < 60
  pub second : second_of digits < 60

digit-small : (c : ℕ) → is_ascii_digit c ≡ true → digit_value c ≤ 9
digit-small c h =
    let parts = and_parts (nat_le 48 c) (nat_le c 57) h in
    let low : 48 ≤ c = leb-true 48 c parts.0 in
    let high : c ≤ 57 = leb-true c 57 parts.1 in
    omega (arith, digit_value_digit c (low, high))

-- the digits are long enough for a year
pub form-long : (digits : List ℕ) → has_form digits ≡ true → 4 ≤ length digits
form-long digits h =
    elim (or_cases ((length digits == 8) || (length digits == 12)) (length digits == 14) ((and_parts _ (list_all is_ascii_digit digits) h).0)) [
      | inl few ↦ elim (or_cases (length digits == 8) (length digits == 12) few) [
        | inl eight ↦ let e : length digits ≡ 8 = eqb-true (length digits) 8 eight in omega arith
        | inr twelve ↦ let e : length digits ≡ 12 = eqb-true (length digits) 12 twelve in omega arith
      ]
      | inr fourteen ↦ let e : length digits ≡ 14 = eqb-true (length digits) 14 fourteen in omega arith
    ]

year-small : (digits : List ℕ) → list_all is_ascii_digit digits ≡ true → 4 ≤ length digits → year_of digits ≤ 9999
year-small [] h long = absurd (omega arith)
year-small (a ∷ []) h long = absurd (omega arith)
year-small (a ∷ b ∷ []) h long = absurd (omega arith)
year-small (a ∷ b ∷ c ∷ []) h long = absurd (omega arith)
year-small (a ∷ b ∷ c ∷ d ∷ rest) h long =
    let p = and_parts (is_ascii_digit a) (list_all is_ascii_digit (b ∷ c ∷ d ∷ rest)) h in
    let q = and_parts (is_ascii_digit b) (list_all is_ascii_digit (c ∷ d ∷ rest)) p.1 in
    let r = and_parts (is_ascii_digit c) (list_all is_ascii_digit (d ∷ rest)) q.1 in
    let s = and_parts (is_ascii_digit d) (list_all is_ascii_digit rest) r.1 in
    omega (arith, digit-small a p.0, digit-small b q.0, digit-small c r.0, digit-small d s.0)

pub civil-facts : (digits : List ℕ) → is_civil_text digits ≡ true → CivilFacts digits
civil-facts digits h =
    let outer = and_parts (has_form digits && is_date (year_of digits) (month_of digits) (day_of digits)) (is_time (hour_of digits) (minute_of digits) (second_of digits)) h in
    let inner = and_parts (has_form digits) (is_date (year_of digits) (month_of digits) (day_of digits)) outer.0 in
    let small = year-small digits ((and_parts _ (list_all is_ascii_digit digits) inner.0).1) (form-long digits inner.0) in
    let last = and_parts (nat_le 1 (month_of digits) && nat_le (month_of digits) 12 && nat_le 1 (day_of digits)) (nat_le (day_of digits) (days_in_month (pos (year_of digits)) (month_of digits))) inner.1 in
    let third = and_parts (nat_le 1 (month_of digits) && nat_le (month_of digits) 12) (nat_le 1 (day_of digits)) last.0 in
    let first = and_parts (nat_le 1 (month_of digits)) (nat_le (month_of digits) 12) third.0 in
    let clock = and_parts (nat_le (hour_of digits) 23 && nat_le (minute_of digits) 59) (nat_le (second_of digits) 59) outer.1 in
    let hands = and_parts (nat_le (hour_of digits) 23) (nat_le (minute_of digits) 59) clock.0 in
    record {
      year = (omega (arith, ints), omega (arith, ints, small));
      month = (leb-true 1 (month_of digits) first.0, leb-true (month_of digits) 12 first.1);
      day = (leb-true 1 (day_of digits) third.1, leb-true (day_of digits) (days_in_month (pos (year_of digits)) (month_of digits)) last.1);
      hour = omega (arith, leb-true (hour_of digits) 23 hands.0);
      minute = omega (arith, leb-true (minute_of digits) 59 hands.1);
      second = omega (arith, leb-true (second_of digits) 59 clock.1);
    }
