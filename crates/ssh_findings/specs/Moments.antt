-- The expiry times of a line (sshd(8), expiry-time).
use Rattle.std.specs.Prelude.{ℕ, ℤ, pos, Bool, false, not, if◌then◌else◌, List, [], ◌∷◌, Option, Some, None}
use Rattle.std.specs.Int.Signed.{le_z}
use Rattle.std.specs.List.{list_any}
use Rattle.jiff.specs.Types.{TimeZone}
use Rattle.ssh_text.specs.Text.{ends_with}
use Rattle.ssh_options.specs.Moment.{moment_of}

-- the earlier of two times, or the only one
abbrev pub earlier : Option ℤ → Option ℤ → Option ℤ
earlier None other = other
earlier (Some one) None = Some one
earlier (Some one) (Some other) = if le_z one other then Some one else Some other

-- the earliest of a time and those of expiry texts
abbrev pub least_of : TimeZone → Option ℤ → List (List ℕ) → Option ℤ
least_of zone least [] = least
least_of zone least (text ∷ texts) = least_of zone (earlier least (moment_of text zone)) texts

-- the earliest time of expiry texts, if there is any: up to it the line may admit
abbrev pub until : TimeZone → List (List ℕ) → Option ℤ
until zone texts = least_of zone None texts

-- Some text does not end in `Z`, so that it is in local time.
abbrev pub has_local_time : List (List ℕ) → Bool
has_local_time texts = list_any (λ text. not (ends_with 90 text)) texts

-- a time is past once it is over; no time is never past
abbrev pub is_known_past : ℕ → Option ℤ → Bool
is_known_past now None = false
is_known_past now (Some moment) = not (le_z (pos now) moment)
