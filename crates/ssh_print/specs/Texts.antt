-- Small printed texts, and lines of a word and a value.
use Rattle.std.specs.Prelude.{◌++◌, ◌∷◌, [], ◌==◌, ◌&&◌, ◌+◌, ◌/◌, ◌%◌, ℕ, Bool, not, List, codes, nat_lt, nat_le, if◌then◌else◌}
use Rattle.std.specs.List.{flat_map}

-- ---- small texts

-- a space, and the text
abbrev pub spaced : List ℕ → List ℕ
spaced text = 32 ∷ text

abbrev pub hex_digit : ℕ → ℕ
hex_digit d = if nat_lt d 10 then 48 + d else 87 + d

abbrev pub hex_pair : ℕ → List ℕ
hex_pair b = hex_digit (b / 16) ∷ hex_digit (b % 16) ∷ []

-- lower case hexadecimal
abbrev pub hex_digits : List ℕ → List ℕ
hex_digits bytes = flat_map hex_pair bytes

-- the same, and `-` for no bytes
abbrev pub hex_text : List ℕ → List ℕ
hex_text [] = 45 ∷ []
hex_text (b ∷ bytes) = hex_digits (b ∷ bytes)

-- printable ASCII except the backslash (92)
abbrev pub is_plain_byte : ℕ → Bool
is_plain_byte b = nat_le 32 b && (nat_lt b 127 && not (b == 92))

-- a byte of a text: a plain one is itself, every other byte is escaped
abbrev pub escaped_byte : ℕ → List ℕ
escaped_byte b = if is_plain_byte b then b ∷ [] else 92 ∷ 120 ∷ hex_pair b

abbrev pub escaped_text : List ℕ → List ℕ
escaped_text text = flat_map escaped_byte text

-- ---- lines, each of which ends with an LF

-- a word, with a space after it, and a value
unfoldable pub word_line : List ℕ → List ℕ → List ℕ
word_line word text = word ++ text ++ codes "\n"

-- the same for bytes of any kind
abbrev pub text_line : List ℕ → List ℕ → List ℕ
text_line word text = word_line word (escaped_text text)
