-- What is read of the first line of a file is what is read of the line alone.
use Rattle.ssh_print.proofs.Imports.{◌≡◌, ◌∙◌, ◌==◌, ℕ, Bool, true, false, cond, List, [], ◌∷◌, refl, sym, ap, onto_first, lines_of, top_line, first_of_lines, shown_line}
use Rattle.ssh_print.specs.Offering.{shown_offer_in}

first-onto : (c : ℕ) (lines : List (List ℕ)) → first_of_lines (onto_first c lines) ≡ c ∷ first_of_lines lines
first-onto c [] = refl
first-onto c (line ∷ lines) = refl

first-by : (b : Bool) (c : ℕ) (lines : List (List ℕ)) (line : List ℕ) → first_of_lines lines ≡ line
    → first_of_lines (cond b ([] ∷ lines) (onto_first c lines)) ≡ cond b [] (c ∷ line)
first-by true c lines line e = refl
first-by false c lines line e = first-onto c lines ∙ ap (λ (l : List ℕ). c ∷ l) e

first-top : (file : List ℕ) → shown_line file ≡ top_line file
first-top [] = refl
first-top (c ∷ file) = first-by (c == 10) c (lines_of file) (top_line file) (first-top file)

again-by : (b : Bool) (c : ℕ) (line : List ℕ) → (c == 10) ≡ b → top_line line ≡ line → top_line (cond b [] (c ∷ line)) ≡ cond b [] (c ∷ line)
again-by true c line e h = refl
again-by false c line e h = ap (λ (x : Bool). cond x [] (c ∷ top_line line)) e ∙ ap (λ (l : List ℕ). c ∷ l) h

top-again : (file : List ℕ) → top_line (top_line file) ≡ top_line file
top-again [] = refl
top-again (c ∷ file) = again-by (c == 10) c (top_line file) refl (top-again file)

pub line-shown : (file : List ℕ) → shown_line (top_line file) ≡ shown_line file
line-shown file = first-top (top_line file) ∙ (top-again file ∙ sym (first-top file))

-- what a file offers is on its first line
pub line-offered : (file : List ℕ) → shown_offer_in (top_line file) ≡ shown_offer_in file
unfolding shown_offer_in
line-offered file = rw (line-shown file) refl
