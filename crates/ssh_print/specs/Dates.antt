-- The dates of moments in UTC: each moment up to the year 9999 is a civil date and a time of day.
use Rattle.std.proofs.Common.{◌≡◌, ◌∙◌, ℕ, suc, ◌+◌, ◌-◌, ◌*◌, ◌/◌, ◌%◌, ◌<◌, ◌≤◌, nat_le, Bool, true, false, List, ◌++◌, refl, arith, lit<}
use Rattle.std.specs.Prelude.{ℤ, pos, negsuc, ◌+ℤ◌, codes}
use Rattle.std.specs.Fmt.{signed_decimal}
use Rattle.std.proofs.lemmas.Bool.{leb-true, leb-false}
use Rattle.jiff.specs.Types.{DateTime}
use Rattle.jiff.specs.Words.{epoch_day}
use Rattle.jiff_core.specs.declared.civil.date.Date.{Date}
use Rattle.jiff_core.specs.Calendar.{day_count, days_from_civil}
use Rattle.jiff_core.specs.March.{march_days, march_months}
use Rattle.jiff_core.proofs.SignedLemmas.{signed_arith}
use Rattle.jiff_core.proofs.CalendarLemmas.{days_from_civil-day_count}
use Rattle.jiff_core.proofs.DateTimeLemmas.{civil_nanos-parts}
use Rattle.jiff_core.proofs.MarchLemmas.{day_count-early, day_count-late, day_in_early_month, day_in_month, leap_day, leap_day-shift, march_days-suc, month_and_day}
use Rattle.ssh_print.specs.ShownTexts.{IsClockAt, clock_text, last_second}

-- ---- days, by years that begin in March, counted from the year -10000

abbrev year_from : ℕ → ℕ
year_from n = 100 * ((4 * n + 3) / 146097) + ((4 * n + 3) % 146097 / 4 * 4 + 3) / 1461

abbrev day_from : ℕ → ℕ
day_from n = ((4 * n + 3) % 146097 / 4 * 4 + 3) % 1461 / 4

record MarchDay (n : ℕ) : Type 0 where
  year : ℕ
  day : ℕ
  is : march_days year + day ≡ n
  within : n < march_days (year + 1)
  small : day < 366

march_day : (n : ℕ) → n < 7400000 → MarchDay n
march_day n h = record { year = year_from n; day = day_from n; is = omega arith; within = omega arith; small = omega arith }

-- the date of a day, counted from 1970-01-01
pub record DayAt (days : ℕ) : Type 0 where
  pub date : Date
  pub is : epoch_day date ≡ pos days

-- the years of the moments from 1970 to 9999
year_bounds : (year n : ℕ) → march_days year ≤ n → n < march_days (year + 1) → 4371893 ≤ n → n ≤ 7304789 → (10000 ≤ year) × (year ≤ 19999)
year_bounds year n low high first last = (omega arith, omega arith)

january_bound : (year day n : ℕ) → march_days year + day ≡ n → 306 ≤ day → n ≤ 7304789 → year ≤ 19998
january_bound year day n is late last = omega arith

day_number : (days count : ℕ) (y : ℤ) (m d : ℕ) → day_count y m d ≡ count → count ≡ days + 4371953 → days_from_civil y m d ≡ pos days
day_number days count y m d e f = omega (arith, signed_arith, days_from_civil-day_count y m d)

late_day : (days : ℕ) → days ≤ 2932896 → (march : MarchDay (days + 4371893)) → (5 * march.day + 461) / 153 ≤ 12 → DayAt days
late_day days h march k =
    let n = march.day in
    let bounds = year_bounds march.year (days + 4371893) (omega (arith, march.is)) march.within (omega arith) (omega arith) in
    let y : ℤ = pos (march.year - 10000) in
    let same : y +ℤ pos 10000 ≡ pos march.year = omega (arith, signed_arith, bounds.0) in
    let count = day_count-late y march.year ((5 * n + 461) / 153) ((5 * n + 461) % 153 / 5 + 1) same (omega arith) k (omega arith) in
    let total : march_days march.year + march_months ((5 * n + 461) / 153) + ((5 * n + 461) % 153 / 5 + 1) + 59 ≡ days + 4371953 =
    omega (arith, month_and_day n march.small, march.is) in
    record {
      date = record {
        year = y;
        month = (5 * n + 461) / 153;
        day = (5 * n + 461) % 153 / 5 + 1;
        year_in = (omega (arith, signed_arith), omega (arith, signed_arith, bounds.1));
        month_in = (omega arith, k);
        day_in = (omega arith, day_in_month y n k);
      };
      is = day_number days _ y ((5 * n + 461) / 153) ((5 * n + 461) % 153 / 5 + 1) count total;
    }

early_day : (days : ℕ) → days ≤ 2932896 → (march : MarchDay (days + 4371893)) → 12 < (5 * march.day + 461) / 153 → DayAt days
early_day days h march k =
    let n = march.day in
    let bounds = year_bounds march.year (days + 4371893) (omega (arith, march.is)) march.within (omega arith) (omega arith) in
    let last = january_bound march.year n (days + 4371893) march.is (omega arith) (omega arith) in
    let y : ℤ = pos (suc march.year - 10000) in
    let same : y +ℤ pos 10000 ≡ pos (suc march.year) = omega (arith, signed_arith, bounds.0) in
    let few : n < 365 + leap_day y = omega (arith, march.is, march.within, march_days-suc march.year, leap_day-shift y (suc march.year) same) in
    let back : (5 * n + 461) / 153 - 12 + 12 ≡ (5 * n + 461) / 153 = omega arith in
    let count = day_count-early y march.year ((5 * n + 461) / 153 - 12) ((5 * n + 461) % 153 / 5 + 1) same (omega arith) (omega (arith, march.small)) (omega arith) in
    let total : march_days march.year + march_months ((5 * n + 461) / 153) + ((5 * n + 461) % 153 / 5 + 1) + 59 ≡ days + 4371953 =
    omega (arith, month_and_day n march.small, march.is) in
    record {
      date = record {
        year = y;
        month = (5 * n + 461) / 153 - 12;
        day = (5 * n + 461) % 153 / 5 + 1;
        year_in = (omega (arith, signed_arith), omega (arith, signed_arith, last));
        month_in = (omega arith, omega (arith, march.small));
        day_in = (omega arith, day_in_early_month y n k few);
      };
      is = day_number days _ y ((5 * n + 461) / 153 - 12) ((5 * n + 461) % 153 / 5 + 1) (rw back at count) total;
    }

day_by : (days : ℕ) → days ≤ 2932896 → (march : MarchDay (days + 4371893)) → (b : Bool) → nat_le ((5 * march.day + 461) / 153) 12 ≡ b → DayAt days
day_by days h march true e = late_day days h march (leb-true _ _ e)
day_by days h march false e = early_day days h march (leb-false _ _ e)

day_at : (days : ℕ) → days ≤ 2932896 → DayAt days
day_at days h = let march = march_day (days + 4371893) (omega arith) in day_by days h march (nat_le ((5 * march.day + 461) / 153) 12) refl

-- the clock in UTC at a moment
pub record ClockAt (moment : ℕ) : Type 0 where
  pub shown : DateTime
  pub is : IsClockAt moment shown

pub clock_at : (moment : ℕ) → moment ≤ last_second → ClockAt moment
clock_at moment h =
    let day = day_at (moment / 86400) (omega arith) in
    let shown : DateTime = record {
      date = day.date;
      time = record {
        hour = moment % 86400 / 3600;
        minute = moment % 3600 / 60;
        second = moment % 60;
        subsec_nanosecond = 0;
        hour_in = omega arith;
        minute_in = omega arith;
        second_in = omega arith;
        subsec_in = lit< tt;
      };
    } in
    record { shown = shown; is = civil_nanos-parts shown ∙ omega (arith, signed_arith, day.is) }

-- no such clock shows a part of a second
pub clock_at-whole : (moment : ℕ) (h : moment ≤ last_second) → (clock_at moment h).shown.time.subsec_nanosecond ≡ 0
unfolding clock_at
clock_at-whole moment h = refl

-- ---- texts

abbrev pub date_by : (moment : ℕ) (b : Bool) → nat_le moment last_second ≡ b → List ℕ
date_by moment true e = clock_text (clock_at moment (leb-true moment last_second e)).shown
date_by moment false e = codes "-"

-- the date of a moment as `YYYY-MM-DDTHH:MM:SSZ`, or a dash after the year 9999
unfoldable pub date_of : ℕ → List ℕ
date_of moment = date_by moment (nat_le moment last_second) refl

-- the same for a moment before 1970 too, which has a dash
abbrev pub moment_date : ℤ → List ℕ
moment_date (pos moment) = date_of moment
moment_date (negsuc n) = codes "-"

-- a moment in seconds since 1970-01-01 in UTC, and its date
abbrev pub moment_text : ℤ → List ℕ
moment_text moment = signed_decimal moment ++ codes " " ++ moment_date moment
