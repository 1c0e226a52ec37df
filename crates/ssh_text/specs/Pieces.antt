-- The lines that a scanner returns for a file that it reads in pieces.
use Rattle.std.specs.Prelude.{◌≡◌, ℕ, ◌<◌, true, false, List, [], ◌∷◌, ◌++◌, length}
use Rattle.ssh_text.specs.Scan.{IsLastLine, after_newline, has_newline, unfinished, up_to_newline}

-- The numbered lines that are returned for one piece, after the bytes that were read before: the piece is read up to and including its first LF, the complete line is the last one so far, and so on with the rest, until no LF is left.
abbrev pub ComeOut : List ℕ → List ℕ → List (ℕ × List ℕ) → Type 0
ComeOut used piece [] = has_newline piece ≡ false
ComeOut used piece ((number, line) ∷ lines) =
    (has_newline piece ≡ true) × IsLastLine (used ++ up_to_newline piece) number line
    × ComeOut (used ++ up_to_newline piece) (after_newline piece) lines

-- at the end of the file: the line without an LF, if there is one
abbrev pub ComesLast : List ℕ → List (ℕ × List ℕ) → Type 0
ComesLast used [] = unfinished used ≡ []
ComesLast used ((number, line) ∷ lines) = (0 < length (unfinished used)) × IsLastLine used number line × (lines ≡ [])

-- the lines for a file that is read piece by piece and then ended
abbrev pub ComeOutOf : List ℕ → List (List ℕ) → List (ℕ × List ℕ) → Type 0
ComeOutOf used [] lines = ComesLast used lines
ComeOutOf used (piece ∷ pieces) lines =
    (first rest : List (ℕ × List ℕ)) × (lines ≡ first ++ rest) × ComeOut used piece first × ComeOutOf (used ++ piece) pieces rest
