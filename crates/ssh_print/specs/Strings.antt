-- JSON strings for bytes of any kind (RFC 8259, section 7, over the escaped texts).
use Rattle.std.specs.Prelude.{◌++◌, ◌∷◌, [], ◌==◌, ◌||◌, ◌&&◌, ℕ, Bool, not, List, Option, Some, None, codes, if◌then◌else◌}
use Rattle.std.specs.List.{flat_map}
use Rattle.ssh_print.specs.Texts.{escaped_text, is_plain_byte}

-- a byte of a string: a backslash (92) comes before a quote (34) and before a backslash
abbrev pub quoted_byte : ℕ → List ℕ
quoted_byte c = (if c == 34 || c == 92 then 92 ∷ [] else []) ++ c ∷ []

-- the escaped text of the bytes, as a string
unfoldable pub json_text : List ℕ → List ℕ
json_text text = codes "\"" ++ flat_map quoted_byte (escaped_text text) ++ codes "\""

-- a byte that is itself in a string: one that is printed as it is, except the quote
abbrev pub is_verbatim : ℕ → Bool
is_verbatim c = is_plain_byte c && not (c == 34)

-- ---- reading

abbrev pub with_byte : ℕ → Option (List ℕ × List ℕ) → Option (List ℕ × List ℕ)
with_byte c None = None
with_byte c (Some read) = Some (c ∷ read.0, read.1)

-- What a reader reads as the rest of a string, and what is left after it. A quote ends the string, and a backslash
-- comes before each quote or backslash of the text.
abbrev pub read_rest : List ℕ → Option (List ℕ × List ℕ)
read_rest [] = None
read_rest (c ∷ []) = if c == 34 then Some ([], []) else None
read_rest (c ∷ d ∷ text) =
    if c == 34 then Some ([], d ∷ text)
    else if c == 92 then (if d == 34 || d == 92 then with_byte d (read_rest text) else None)
    else with_byte c (read_rest (d ∷ text))

-- what a reader reads as a string, which begins with a quote, and what is left after it
abbrev pub read_string : List ℕ → Option (List ℕ × List ℕ)
read_string [] = None
read_string (c ∷ text) = if c == 34 then read_rest text else None
