-- Appending lines until a file passes its limit (this project's rule).
use Rattle.std.specs.Prelude.{ℕ, nat_lt, List, [], ◌∷◌, ◌++◌, length, if◌then◌else◌}
use Rattle.ssh_text.specs.Text.{file_limit}

-- the file with a line and its LF appended, or unchanged where it is already past the limit
abbrev pub bounded_line : List ℕ → List ℕ → List ℕ
bounded_line file line = if nat_lt file_limit (length file) then file else file ++ line ++ 10 ∷ []

-- the same for several lines, one after the other
abbrev pub bounded_lines : List ℕ → List (List ℕ) → List ℕ
bounded_lines file [] = file
bounded_lines file (line ∷ lines) = bounded_lines (bounded_line file line) lines
