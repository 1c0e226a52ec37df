-- The date of a moment is printable.
use Rattle.ssh_review.proofs.Imports.{◌≡◌, ℕ, suc, ◌+◌, ◌/◌, ◌%◌, ◌<◌, nat_le, Bool, true, false, [], ◌∷◌, refl, arith, ℤ, pos, negsuc, None, codes, and_from, leb-true, DateTime, IsYear, Date, Time, days_in_month_bounds, signed_arith, date_text, pad2, pad4, time_text, year_text, clock_text, last_second, clock_at, clock_at-whole, date_by, moment_date, moment_text}
use Rattle.ssh_print.specs.Dates.{date_of}
use Rattle.ssh_review.proofs.PrintableLemmas.{ArePrintable, join, signed-printable, within, word}

two-printable : (n : ℕ) → n < 100 → ArePrintable (pad2 n)
two-printable n h = record {
  all = and_from _ _ (within (48 + n / 10) (omega arith) (omega (arith, h)))
      (and_from _ true (within (48 + n % 10) (omega arith) (omega arith)) refl);
}

four-printable : (n : ℕ) → n < 10000 → ArePrintable (pad4 n)
four-printable n h = join (two-printable (n / 100) (omega (arith, h))) (two-printable (n % 100) (omega arith))

year-printable : (y : ℤ) → IsYear y → ArePrintable (year_text y)
year-printable (pos n) h = four-printable n (omega (arith, signed_arith, h.1))
year-printable (negsuc n) h = join (word (codes "-00") refl) (four-printable (suc n) (omega (arith, signed_arith, h.0)))

dash : ArePrintable (45 ∷ [])
dash = word (45 ∷ []) refl

colon : ArePrintable (58 ∷ [])
colon = word (58 ∷ []) refl

day-printable : (d : Date) → ArePrintable (date_text d)
day-printable d =
    let month = two-printable d.month (omega (arith, d.month_in.1)) in
    let day = two-printable d.day (omega (arith, d.day_in.1, (days_in_month_bounds d.year d.month).0)) in
    join (join (join (join (year-printable d.year d.year_in) dash) month) dash) day

time-printable : (t : Time) → t.subsec_nanosecond ≡ 0 → ArePrintable (time_text None t)
time-printable t e =
    let minute = join colon (two-printable t.minute (omega (arith, t.minute_in))) in
    let second = join colon (two-printable t.second (omega (arith, t.second_in))) in
    rw e (join (join (join (two-printable t.hour (omega (arith, t.hour_in))) minute) second) (word [] refl))

clock-printable : (shown : DateTime) → shown.time.subsec_nanosecond ≡ 0 → ArePrintable (clock_text shown)
clock-printable shown e =
    join (join (day-printable shown.date) (join (word (84 ∷ []) refl) (time-printable shown.time e))) (word (codes "Z") refl)

date-by-printable : (moment : ℕ) (b : Bool) (e : nat_le moment last_second ≡ b) → ArePrintable (date_by moment b e)
date-by-printable moment true e =
    clock-printable (clock_at moment (leb-true moment last_second e)).shown (clock_at-whole moment (leb-true moment last_second e))
date-by-printable moment false e = word (codes "-") refl

pub date-printable : (moment : ℤ) → ArePrintable (moment_date moment)
unfolding date_of
date-printable (pos moment) = date-by-printable moment (nat_le moment last_second) refl
date-printable (negsuc n) = word (codes "-") refl

pub moment-printable : (moment : ℤ) → ArePrintable (moment_text moment)
moment-printable moment = join (join (signed-printable moment) (word (codes " ") refl)) (date-printable moment)
