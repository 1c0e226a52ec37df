-- What the rows of a file are, by the pieces in their marked text.
use Rattle.std.specs.Prelude.{◌==◌, ℕ, Bool, List}
use Rattle.std.specs.List.{list_any}
use Rattle.ssh_page.specs.declared.piece.Piece.{Piece}
use Rattle.ssh_page.specs.declared.piece.Piece.TheVariants.{AuthorityClass}
use Rattle.ssh_page.specs.Pieces.{mark}

-- the piece stands in them
abbrev pub has_piece : Piece → List ℕ → Bool
has_piece p rows = list_any (λ c. c == mark p) rows

-- one of them is a certificate authority's
abbrev pub has_authority : List ℕ → Bool
has_authority rows = has_piece AuthorityClass rows
