-- Which lists of codes may allocate: `all`, and one whose first piece is a code.
use Rattle.std.specs.Prelude.{ℕ, Bool, false, ◌||◌, List, [], ◌∷◌, bytes_eq, codes, is_some}
use Rattle.ssh_patterns.specs.Lists.{pieces}
use Rattle.ssh_findings.specs.Codes.{code_named}

abbrev pub is_code_first : List (List ℕ) → Bool
is_code_first [] = false
is_code_first (piece ∷ rest) = is_some (code_named piece)

abbrev pub takes_codes : List ℕ → Bool
takes_codes text = bytes_eq text (codes "all") || is_code_first (pieces text)
