-- The page of a marked text: each piece as its HTML, and each byte of text as itself or as its reference.
use Rattle.std.specs.Prelude.{◌<◌, ◌+◌, ◌∷◌, [], ◌==◌, ◌&&◌, ◌||◌, ◌-◌, ℕ, Bool, not, nat_lt, List, codes, filter, length, take, if◌then◌else◌}
use Rattle.std.specs.List.{flat_map}
use Rattle.ssh_page.specs.Pieces.{markup_at}

-- a byte of text: the five that could begin markup or end a value are references (HTML, section 13.1.4)
abbrev pub byte_html : ℕ → List ℕ
byte_html c =
    if c == 38 then codes "&amp;"
    else if c == 60 then codes "&lt;"
    else if c == 62 then codes "&gt;"
    else if c == 34 then codes "&quot;"
    else if c == 39 then codes "&#39;"
    else c ∷ []

abbrev pub text_html : List ℕ → List ℕ
text_html text = flat_map byte_html text

-- a byte of a marked text: below 128 it is text, and from there on a piece
abbrev pub mark_html : ℕ → List ℕ
mark_html c = if nat_lt c 128 then byte_html c else markup_at (c - 128)

abbrev pub page : List ℕ → List ℕ
page marks = flat_map mark_html marks

-- a byte of text that is its own HTML
abbrev pub is_own_html : ℕ → Bool
is_own_html c = nat_lt c 128 && not (c == 38 || (c == 60 || (c == 62 || (c == 34 || c == 39))))

-- there is no mark, or a room of 65,536 bytes that holds this HTML has none for that of the first
abbrev pub NoRoom : List ℕ → List ℕ → Type 0
NoRoom html marks = 0 < length marks → 65536 < length html + length (page (take 1 marks))

-- ---- what is markup

-- the byte stands for a piece
abbrev pub is_mark : ℕ → Bool
is_mark c = not (nat_lt c 128)

-- `<`, `>` or a quote: what markup is made of
abbrev pub is_delimiter : ℕ → Bool
is_delimiter c = c == 60 || (c == 62 || (c == 34 || c == 39))

-- the delimiters of some HTML, in their order
abbrev pub delimiters : List ℕ → List ℕ
delimiters html = filter is_delimiter html

-- a marked text without its texts
abbrev pub without_text : List ℕ → List ℕ
without_text marks = filter is_mark marks
