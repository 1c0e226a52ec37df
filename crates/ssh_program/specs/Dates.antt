-- A date and a time of day in UTC as the value of `--now` (RFC 3339, whole seconds; this project's rule).
use Rattle.std.specs.Prelude.{◌==◌, ◌&&◌, ℕ, ℤ, pos, negsuc, Bool, List, Option, Some, None, Result, Ok, Err, length, option_and_then, if◌then◌else◌, slice_index}
use Rattle.std.specs.Int.RustNames.{int_div}
use Rattle.jiff.specs.Words.{parse_timestamp}

-- the form `YYYY-MM-DDTHH:MM:SSZ`, by its length and by what stands between the digits
abbrev pub is_date_form : List ℕ → Bool
is_date_form text =
    (length text == 20)
    && ((slice_index text 4 == 45) && ((slice_index text 7 == 45) && ((slice_index text 10 == 84)
    && ((slice_index text 13 == 58) && ((slice_index text 16 == 58) && (slice_index text 19 == 90))))))

abbrev pub natural_of : ℤ → Option ℕ
natural_of (pos n) = Some n
natural_of (negsuc n) = None

-- the seconds of an instant that jiff reads, in nanoseconds
abbrev pub seconds_in : {E : Type 0} → Result ℤ E → Option ℤ
seconds_in (Ok nanos) = Some (int_div nanos (pos 1000000000))
seconds_in (Err e) = None

-- the seconds since 1970-01-01 UTC of a text of this form whose date and time exist (by jiff's reading), from 1970 on
abbrev pub date_seconds : List ℕ → Option ℕ
date_seconds text = if is_date_form text then option_and_then natural_of (seconds_in (parse_timestamp text)) else None
