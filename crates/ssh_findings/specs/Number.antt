-- The hashes of texts (this project's rule).
use Rattle.std.specs.Prelude.{◌-◌, ℕ, List, drop, length}
use Rattle.std.specs.Hash.FoldHasher.{finish, initial, write}

-- the fold hash of the standard library, over the last 64 bytes of a text
unfoldable pub number : List ℕ → ℕ
number text = finish (write initial (drop (length text - 64) text))
