-- The file as it is written, line by line.
use Rattle.ssh_rewriting.proofs.Imports.{◌≡◌, ℕ, ◌+◌, List, [], ◌∷◌, ◌++◌, map, refl, sym, ap, ◌∙◌, append_assoc, append-nil, lines_of, numbered, with_newlines, file_with}

-- what the lines that are left are written to
abbrev pub left_written : (List ℕ → List ℕ) → List (ℕ × List ℕ) → List ℕ
left_written written [] = []
left_written written (line ∷ lines) = written line.1 ++ 10 ∷ left_written written lines

pub all_left : (written : List ℕ → List ℕ) (n : ℕ) (lines : List (List ℕ)) → left_written written (numbered n lines) ≡ with_newlines (map written lines)
all_left written n [] = refl
all_left written n (line ∷ lines) = ap (λ t. written line ++ 10 ∷ t) (all_left written (n + 1) lines)

pub left_begin : (written : List ℕ → List ℕ) (file : List ℕ) → file_with written file ≡ [] ++ left_written written (numbered 1 (lines_of file))
left_begin written file = sym (all_left written 1 (lines_of file))

pub left_next : (written : List ℕ → List ℕ) (whole out put new line : List ℕ) (number : ℕ) (now next : List (ℕ × List ℕ)) → now ≡ (number, line) ∷ next
    → whole ≡ out ++ left_written written now → put ≡ out ++ written line → new ≡ put ++ 10 ∷ [] → whole ≡ new ++ left_written written next
left_next written whole out put new line number now next is all one end =
    let regroup : out ++ (written line ++ 10 ∷ left_written written next) ≡ ((out ++ written line) ++ 10 ∷ []) ++ left_written written next = simp append_assoc in
    all ∙ ap (λ l. out ++ left_written written l) is ∙ regroup
    ∙ ap (λ t. (t ++ 10 ∷ []) ++ left_written written next) (sym one) ∙ ap (λ t. t ++ left_written written next) (sym end)

pub left_none : (written : List ℕ → List ℕ) (whole out : List ℕ) (now : List (ℕ × List ℕ)) → now ≡ []
    → whole ≡ out ++ left_written written now → out ≡ whole
left_none written whole out now is all = sym (all ∙ ap (λ l. out ++ left_written written l) is ∙ append-nil out)
