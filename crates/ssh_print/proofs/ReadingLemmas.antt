-- A JSON reader reads each string as the text that is printed.
use Rattle.ssh_print.proofs.Imports.{◌≡◌, ◌∙◌, ℕ, ◌==◌, Bool, true, false, ◌||◌, cond, List, [], ◌∷◌, ◌++◌, refl, ap, append_assoc, flat_map, escaped_text, quoted_byte, read_rest, read_string, with_byte}
use Rattle.std.specs.Prelude.{Some, None}
use Rattle.ssh_print.specs.Strings.{json_text}

plain-read : (c : ℕ) (text : List ℕ) (read : List ℕ × List ℕ) → (c == 34) ≡ false → (c == 92) ≡ false → read_rest text ≡ Some read
    → read_rest (c ∷ text) ≡ Some (c ∷ read.0, read.1)
plain-read c [] read e f h = absurd (let no : None ≡ Some read = h in cc)
plain-read c (d ∷ text) read e f h = rw (e, f) (ap (with_byte c) h)

meant-read : (c : ℕ) (text : List ℕ) (read : List ℕ × List ℕ) → (c == 34 || c == 92) ≡ true → read_rest text ≡ Some read
    → read_rest (92 ∷ c ∷ text) ≡ Some (c ∷ read.0, read.1)
meant-read c text read e h = rw e (ap (with_byte c) h)

end-read : (rest : List ℕ) → read_rest (34 ∷ rest) ≡ Some ([], rest)
end-read [] = refl
end-read (d ∷ rest) = refl

bytes-read : (text rest : List ℕ) → read_rest (flat_map quoted_byte text ++ 34 ∷ rest) ≡ Some (text, rest)
bytes-read [] rest = end-read rest
bytes-read (c ∷ text) rest = go (c == 34) (c == 92) refl refl (bytes-read text rest)
  where
    go : (q s : Bool) → (c == 34) ≡ q → (c == 92) ≡ s → read_rest (flat_map quoted_byte text ++ 34 ∷ rest) ≡ Some (text, rest)
        → read_rest ((cond (q || s) (92 ∷ []) [] ++ c ∷ []) ++ flat_map quoted_byte text ++ 34 ∷ rest) ≡ Some (c ∷ text, rest)
    go true s e f h = meant-read c (flat_map quoted_byte text ++ 34 ∷ rest) (text, rest) (ap (λ b. b || (c == 92)) e) h
    go false true e f h = meant-read c (flat_map quoted_byte text ++ 34 ∷ rest) (text, rest) (ap (λ b. b || (c == 92)) e ∙ f) h
    go false false e f h = plain-read c (flat_map quoted_byte text ++ 34 ∷ rest) (text, rest) e f h

pub string-read : (text rest : List ℕ) → read_string (json_text text ++ rest) ≡ Some (escaped_text text, rest)
unfolding json_text
string-read text rest = rw (append_assoc (flat_map quoted_byte (escaped_text text)) (34 ∷ []) rest) (bytes-read (escaped_text text) rest)
