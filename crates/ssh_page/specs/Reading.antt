-- What a reader of HTML reads as text: each reference as its character (HTML, section 13.2.5.72).
use Rattle.std.specs.Prelude.{◌++◌, ◌∷◌, [], ◌==◌, ℕ, List, Option, Some, None, codes, bytes_eq, if◌then◌else◌}

-- the character of a reference, by what stands between `&` (38) and `;` (59)
abbrev pub referred : List ℕ → ℕ
referred name =
    if bytes_eq name (codes "amp") then 38
    else if bytes_eq name (codes "lt") then 60
    else if bytes_eq name (codes "gt") then 62
    else if bytes_eq name (codes "quot") then 34
    else 39

-- the text that is read, after the front of a reference, if there is one
abbrev pub read_after : Option (List ℕ) → List ℕ → List ℕ
read_after name [] = []
read_after None (c ∷ rest) = if c == 38 then read_after (Some []) rest else c ∷ read_after None rest
read_after (Some name) (c ∷ rest) =
    if c == 59 then referred name ∷ read_after None rest else read_after (Some (name ++ c ∷ [])) rest

-- the text that is read
abbrev pub read_text : List ℕ → List ℕ
read_text html = read_after None html
