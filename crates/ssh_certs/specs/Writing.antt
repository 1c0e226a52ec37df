-- The length of what is written, as a machine number.
use Rattle.std.specs.Prelude.{ℕ, ◌-◌, ◌^◌, min}

-- a length as a machine number; a length beyond the largest number counts as the largest
abbrev pub capped : ℕ → ℕ
capped n = min n (2 ^ 64 - 1)
