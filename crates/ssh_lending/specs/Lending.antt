-- A buffer that a caller lends for a list of items (this project's rule).
use Rattle.std.specs.Prelude.{◌≡◌, ◌++◌, ℕ, List, drop, length, nat_le, if◌then◌else◌}

-- the items and what was behind them; or the buffer as it was, if there are more items
abbrev pub filled : {A : Type 0} → List A → List A → List A
filled items old = if nat_le (length items) (length old) then items ++ drop (length items) old else old

-- the buffer is filled so, and the number that is returned is that of the items
abbrev pub Lends : {A : Type 0} → List A → List A → List A → ℕ → Type 0
Lends items old new returned = (new ≡ filled items old) × (returned ≡ length items)
