-- Expiry times (sshd(8), expiry-time; this project's rules for folds, gaps and the year 9999).
use Rattle.std.specs.Prelude.{◌≡◌, ℕ, nat_le, ℤ, pos, ◌-ℤ◌, Bool, true, false, ◌||◌, ◌&&◌, ◌==◌, List, length, take, drop}
use Rattle.std.specs.List.{list_all}
use Rattle.std.specs.Char.{is_ascii_digit}
use Rattle.std.specs.Str.Parse.{digits_value}
use Rattle.jiff.specs.Types.{DateTime, TimeZone}
use Rattle.jiff.specs.Words.{days_in_month, IsYmd, IsHms, civil_seconds, compatible_offset, ambiguous_at}
use Rattle.ssh_text.specs.Text.{without_last, ends_with}

-- the number at a place of the text
abbrev pub digits_at : List ℕ → ℕ → ℕ → ℕ
digits_at text place count = digits_value 10 (take count (drop place text))

-- the parts of YYYYMMDDHHMMSS; digits that are missing at the end count as zero
abbrev pub year_of : List ℕ → ℕ
year_of digits = digits_at digits 0 4

abbrev pub month_of : List ℕ → ℕ
month_of digits = digits_at digits 4 2

abbrev pub day_of : List ℕ → ℕ
day_of digits = digits_at digits 6 2

abbrev pub hour_of : List ℕ → ℕ
hour_of digits = digits_at digits 8 2

abbrev pub minute_of : List ℕ → ℕ
minute_of digits = digits_at digits 10 2

abbrev pub second_of : List ℕ → ℕ
second_of digits = digits_at digits 12 2

-- the text without the Z at its end, if it has one
abbrev pub without_z : List ℕ → List ℕ
without_z text = without_last 90 text

-- 8, 12 or 14 digits
abbrev pub has_form : List ℕ → Bool
has_form digits =
    ((length digits == 8) || (length digits == 12) || (length digits == 14)) && list_all is_ascii_digit digits

-- a date that exists in the calendar
abbrev pub is_date : ℕ → ℕ → ℕ → Bool
is_date year month day = nat_le 1 month && nat_le month 12 && nat_le 1 day && nat_le day (days_in_month (pos year) month)

-- a time of day to 23:59:59
abbrev pub is_time : ℕ → ℕ → ℕ → Bool
is_time hour minute second = nat_le hour 23 && nat_le minute 59 && nat_le second 59

-- digits for a date and a time of day that exist
abbrev pub is_civil_text : List ℕ → Bool
is_civil_text digits =
    has_form digits && is_date (year_of digits) (month_of digits) (day_of digits)
    && is_time (hour_of digits) (minute_of digits) (second_of digits)

-- the same with an optional Z at the end
unfoldable pub is_expiry_text : List ℕ → Bool
is_expiry_text text = is_civil_text (without_z text)

-- the date and time that the digits give
pub record IsShown (digits : List ℕ) (shown : DateTime) : Type 0 where
  pub date : IsYmd (pos (year_of digits)) (pos (month_of digits)) (pos (day_of digits)) shown.date
  pub time : IsHms (pos (hour_of digits)) (pos (minute_of digits)) (pos (second_of digits)) (pos 0) shown.time

-- whether the text is read in UTC: it ends with a Z, or its year is 9999
abbrev pub is_utc : List ℕ → Bool
is_utc text = ends_with 90 text || (year_of text == 9999)

-- the offset of a clock from UTC: in a fold the one that gives the earlier instant, in a gap the one before it
abbrev pub offset_seconds : Bool → TimeZone → DateTime → ℤ
offset_seconds true zone shown = pos 0
offset_seconds false zone shown = (compatible_offset (ambiguous_at zone shown)).seconds

-- The moment of an expiry text, in seconds from 1970-01-01 in UTC: the day number times 86,400 and the seconds of the day (`civil_seconds`) of the date and time that the text gives, less the offset.
abbrev pub IsMoment : List ℕ → TimeZone → ℤ → Type 0
IsMoment text zone moment =
    (is_expiry_text text ≡ true)
    × ((shown : DateTime) × IsShown (without_z text) shown
    × (moment ≡ civil_seconds shown -ℤ offset_seconds (is_utc text) zone shown))
