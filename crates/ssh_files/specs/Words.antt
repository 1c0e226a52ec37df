-- The arguments on a line, separated by spaces.
use Rattle.std.specs.Prelude.{[], ◌∷◌, false, ◌==◌, ◌&&◌, ℕ, Bool, List, length, nat_lt, nat_le, filter, if◌then◌else◌}
use Rattle.std.specs.List.{list_all, slice_split}
use Rattle.std.specs.Str.Lossy.{utf8_valid_len}
use Rattle.ssh_text.specs.Text.{line_limit}

abbrev pub is_space : ℕ → Bool
is_space b = b == 32

abbrev pub is_filled : List ℕ → Bool
is_filled word = nat_lt 0 (length word)

abbrev pub is_text : List ℕ → Bool
is_text word = utf8_valid_len word == length word

-- the pieces between spaces that are not empty
unfoldable pub pieces_of : List ℕ → List (List ℕ)
pieces_of line = filter is_filled (slice_split is_space line)

-- The arguments on a line; none where it is past the limit or is not UTF-8. (A space is a character of one byte, so a
-- line is UTF-8 where its arguments are.)
abbrev pub words_in : List ℕ → List (List ℕ)
words_in line = if nat_le (length line) line_limit && list_all is_text (pieces_of line) then pieces_of line else []

-- the first of these pieces, if there is one, is UTF-8
abbrev pub begins_with_text : List (List ℕ) → Bool
begins_with_text [] = false
begins_with_text (word ∷ words) = is_text word

-- Whether an argument is stored, which needs memory: a line past the limit, one of spaces alone and one whose first
-- argument is not UTF-8 need none.
abbrev pub keeps_words : List ℕ → Bool
keeps_words line = nat_le (length line) line_limit && begins_with_text (pieces_of line)
