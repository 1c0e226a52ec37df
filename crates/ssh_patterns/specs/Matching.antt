-- Which texts a pattern matches (ssh_config(5), PATTERNS).
use Rattle.std.specs.Prelude.{◌≡◌, ℕ, Bool, true, false, ◌||◌, ◌&&◌, ◌==◌, if◌then◌else◌, List, [], ◌∷◌, ◌++◌, MatchBool, Option, Some, None}
use Rattle.std.specs.Char.{to_ascii_lowercase}
use Rattle.ssh_patterns.specs.declared.pattern.Case.{Case}
use Rattle.ssh_patterns.specs.declared.pattern.Case.TheVariants.{Exact, Lower}

-- `*`
abbrev pub star : ℕ
star = 42

-- `?`
abbrev pub question : ℕ
question = 63

-- The empty pattern matches the empty text alone. `*` matches any bytes at the front of the text, also none, `?` matches its first byte whatever it is, and any other byte matches itself (ssh_config(5), PATTERNS).
abbrev pub Matches : List ℕ → List ℕ → Type 0
Matches [] text = text ≡ []
Matches (c ∷ pattern) text =
    MatchBool (c == star)
    ((front rest : List ℕ) × (text ≡ front ++ rest) × Matches pattern rest)
    (MatchBool (c == question)
    ((first : ℕ) × (rest : List ℕ) × (text ≡ first ∷ rest) × Matches pattern rest)
    ((rest : List ℕ) × (text ≡ c ∷ rest) × Matches pattern rest))

-- whether some rest of the text passes the test, after any number of bytes at the front
abbrev pub some_rest : (List ℕ → Bool) → List ℕ → Bool
some_rest test [] = test []
some_rest test (x ∷ xs) = test (x ∷ xs) || some_rest test xs

-- whether the text has a first byte that passes one test and a rest that passes the other
abbrev pub first_and_rest : (ℕ → Bool) → (List ℕ → Bool) → List ℕ → Bool
first_and_rest first rest [] = false
first_and_rest first rest (x ∷ xs) = first x && rest xs

-- whether the text is empty
abbrev pub is_empty : List ℕ → Bool
is_empty [] = true
is_empty (x ∷ xs) = false

-- `Matches` as a test
abbrev pub is_match : List ℕ → List ℕ → Bool
is_match [] text = is_empty text
is_match (c ∷ pattern) text =
    if c == star then some_rest (is_match pattern) text
    else first_and_rest (λ x. (c == question) || (c == x)) (is_match pattern) text

-- what follows a star at the front of a pattern
abbrev pub after_star : List ℕ → Option (List ℕ)
after_star [] = None
after_star (c ∷ pattern) = if c == star then Some pattern else None

-- what follows the first bytes of a pattern and of a text, where the pattern's first byte is `?` or the two are equal
abbrev pub after_byte : List ℕ → List ℕ → Option (List ℕ × List ℕ)
after_byte [] text = None
after_byte (c ∷ pattern) [] = None
after_byte (c ∷ pattern) (x ∷ text) = if (c == question) || (c == x) then Some (pattern, text) else None

-- a byte as it is compared: itself, or its ASCII lower case
abbrev pub folded : Case → ℕ → ℕ
folded Exact c = c
folded Lower c = to_ascii_lowercase c
