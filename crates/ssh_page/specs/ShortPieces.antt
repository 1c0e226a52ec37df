-- The short pieces, as they are held beside a room (this project's rule).
use Rattle.std.specs.Prelude.{◌≡◌, ◌<◌, ◌≤◌, ℕ, List, get_or, length, take}
use Rattle.ssh_page.specs.declared.short_piece.ShortPiece.{ShortPiece}
use Rattle.ssh_page.specs.Pieces.{markup_at}

-- the HTML of the piece with this number, if it holds any
abbrev pub IsShort : ℕ → ShortPiece → Type 0
IsShort n p = (p.len ≤ 32) × (0 < p.len → take p.len p.html ≡ markup_at n)

-- each holds that of the piece with its own number
abbrev pub AreShort : List ShortPiece → Type 0
AreShort pieces = (n : ℕ) (d : ShortPiece) → n < length pieces → IsShort n (get_or pieces n d)
