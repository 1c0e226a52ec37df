-- The moment of an expiry text, computed from the text.
use Rattle.std.proofs.Common.{lit<}
use Rattle.std.specs.Prelude.{◌≡◌, ℕ, ℤ, pos, ◌-ℤ◌, Bool, true, false, List, Option, Some, None, refl}
use Rattle.jiff.specs.Types.{DateTime, TimeZone}
use Rattle.jiff.specs.Words.{civil_seconds}
use Rattle.ssh_options.specs.Expiry.{without_z, is_civil_text, year_of, month_of, day_of, hour_of, minute_of, second_of, is_utc, offset_seconds}
use Rattle.ssh_options.specs.CivilFacts.{CivilFacts, civil-facts}

-- the date and the time of day that the digits give
abbrev pub clock_of : (digits : List ℕ) → CivilFacts digits → DateTime
clock_of digits facts = record {
  date = record {
    year = pos (year_of digits);
    month = month_of digits;
    day = day_of digits;
    year_in = facts.year;
    month_in = facts.month;
    day_in = facts.day;
  };
  time = record {
    hour = hour_of digits;
    minute = minute_of digits;
    second = second_of digits;
    subsec_nanosecond = 0;
    hour_in = facts.hour;
    minute_in = facts.minute;
    second_in = facts.second;
    subsec_in = lit< tt;
  };
}

-- the civil seconds of a date and time, less its offset from UTC
abbrev pub moment_at : List ℕ → TimeZone → DateTime → ℤ
moment_at text zone shown = civil_seconds shown -ℤ offset_seconds (is_utc text) zone shown

abbrev pub moment_by : (text : List ℕ) → TimeZone → (is : Bool) → is_civil_text (without_z text) ≡ is → Option ℤ
moment_by text zone false e = None
moment_by text zone true e = Some (moment_at text zone (clock_of (without_z text) (civil-facts (without_z text) e)))

-- The moment of an expiry text, in seconds from 1970-01-01 in UTC, and `None` for any other text.
unfoldable pub moment_of : List ℕ → TimeZone → Option ℤ
moment_of text zone = moment_by text zone (is_civil_text (without_z text)) refl
