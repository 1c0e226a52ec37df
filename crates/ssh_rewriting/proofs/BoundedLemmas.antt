-- Lines that are written as long as a file is within its limit: all of them, or a file past the limit.
use Rattle.ssh_rewriting.proofs.Imports.{◌≡◌, ℕ, ◌<◌, ◌≤◌, false, nat_lt, inl, inr, List, [], ◌∷◌, ◌++◌, length, length-append, refl, sym, ap, subst, ◌∙◌, arith, append_assoc, append-nil, cases_lt, le-ltb, lt-ltb, file_limit, with_newlines, bounded_line, bounded_lines}

full-line : (file line : List ℕ) → file_limit < length file → bounded_line file line ≡ file
full-line file line h = rw (lt-ltb file_limit (length file) h) refl

open-line : (file line : List ℕ) → length file ≤ file_limit → bounded_line file line ≡ file ++ line ++ 10 ∷ []
open-line file line h = rw (le-ltb file_limit (length file) h) refl

-- a line and its LF, written after a look at the file
pub line_written : (file seen line put new : List ℕ) → false ≡ nat_lt file_limit (length seen) → seen ≡ file
    → put ≡ file ++ line → new ≡ put ++ 10 ∷ [] → new ≡ bounded_line file line
line_written file seen line put new room same one end =
    let short : nat_lt file_limit (length file) ≡ false = ap (λ f. nat_lt file_limit (length f)) (sym same) ∙ sym room in
    rw short (end ∙ ap (λ t. t ++ 10 ∷ []) one)

full-lines : (file : List ℕ) (lines : List (List ℕ)) → file_limit < length file → bounded_lines file lines ≡ file
full-lines file [] h = refl
full-lines file (line ∷ lines) h = ap (λ f. bounded_lines f lines) (full-line file line h) ∙ full-lines file lines h

grouped : (file line rest : List ℕ) → (file ++ line ++ 10 ∷ []) ++ rest ≡ file ++ (line ++ 10 ∷ rest)
grouped file line rest = simp append_assoc

-- within the limit each line is written
pub bounded-short : (file : List ℕ) (lines : List (List ℕ)) → length (bounded_lines file lines) ≤ file_limit
    → bounded_lines file lines ≡ file ++ with_newlines lines
bounded-short file [] h = sym (append-nil file)
bounded-short file (line ∷ lines) h =
    elim (cases_lt file_limit (length file)) [
      | inl full ↦
          let stays : length (bounded_lines file (line ∷ lines)) ≡ length file = ap length (full-lines file (line ∷ lines) full) in
          absurd (omega (arith, stays, full, h))
      | inr room ↦
          let one : bounded_lines file (line ∷ lines) ≡ bounded_lines (file ++ line ++ 10 ∷ []) lines = ap (λ f. bounded_lines f lines) (open-line file line room) in
          one ∙ bounded-short (file ++ line ++ 10 ∷ []) lines (subst (λ f. length f ≤ file_limit) one h) ∙ grouped file line (with_newlines lines)
    ]

-- a file that got past the limit has no more bytes than all lines
pub bounded-long : (file : List ℕ) (lines : List (List ℕ)) → file_limit < length (bounded_lines file lines)
    → file_limit < length (file ++ with_newlines lines)
bounded-long file [] h = subst (λ f. file_limit < length f) (sym (append-nil file)) h
bounded-long file (line ∷ lines) h =
    elim (cases_lt file_limit (length file)) [
      | inl full ↦ omega (arith, full, length-append file (line ++ 10 ∷ with_newlines lines))
      | inr room ↦
          let one : bounded_lines file (line ∷ lines) ≡ bounded_lines (file ++ line ++ 10 ∷ []) lines = ap (λ f. bounded_lines f lines) (open-line file line room) in
          subst (λ f. file_limit < length f) (grouped file line (with_newlines lines))
          (bounded-long (file ++ line ++ 10 ∷ []) lines (subst (λ f. file_limit < length f) one h))
    ]
