-- The 16-bit groups of an IPv6 address, stored together as one number.
use Rattle.std.specs.Prelude.{ℕ, ◌/◌, ◌%◌, zero, suc, nat_le, if◌then◌else◌, List, [], ◌∷◌, ◌++◌, length, Option, Some, None}

-- so many last groups of 16 bits of a number, the highest first
abbrev pub groups_in : ℕ → ℕ → List ℕ
groups_in zero n = []
groups_in (suc k) n = groups_in k (n / 65536) ++ (n % 65536) ∷ []

-- the groups, if there are no more than the eight of an address
abbrev pub few : List ℕ → Option (List ℕ)
few groups = if nat_le (length groups) 8 then Some groups else None
