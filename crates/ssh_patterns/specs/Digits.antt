-- The numbers that digits give.
use Rattle.std.specs.Prelude.{ℕ, ◌+◌, ◌*◌, nat_lt, not, ◌||◌, ◌==◌, if◌then◌else◌, List, [], ◌∷◌, length, Option, Some, None}
use Rattle.std.specs.List.{list_all}
use Rattle.std.specs.Char.{is_digit}
use Rattle.std.specs.Str.Parse.{digits_value}

-- the number that digits of a radix give
abbrev pub number_in_radix : ℕ → List ℕ → Option ℕ
number_in_radix radix text = if list_all (λ c. is_digit c radix) text then Some (digits_value radix text) else None

-- the number of a decimal text of at least one digit and without leading zeros
abbrev pub decimal_of : List ℕ → Option ℕ
decimal_of [] = None
decimal_of (c ∷ cs) = if (length cs == 0) || not (c == 48) then number_in_radix 10 (c ∷ cs) else None

-- the number if it is less than the limit
abbrev pub below : ℕ → Option ℕ → Option ℕ
below limit None = None
below limit (Some n) = if nat_lt n limit then Some n else None

-- the number of these digits in a base, the highest first, continued from another number
abbrev pub number_to_base : ℕ → ℕ → List ℕ → ℕ
number_to_base base high [] = high
number_to_base base high (d ∷ ds) = number_to_base base (high * base + d) ds
