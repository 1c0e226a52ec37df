-- Lines with their numbers, one of them and those before it.
use Rattle.ssh_review.proofs.Imports.{◌≡◌, ◌∙◌, ◌+◌, ◌<◌, ◌++◌, ℕ, zero, suc, List, [], ◌∷◌, Some, ap, sym, refl, drop, take, arith, slice_get, numbered}

-- the lines before line k, line k, and those after it
pub split_at : (n k : ℕ) (lines : List (List ℕ)) (line : List ℕ) → slice_get lines k ≡ Some line
    → numbered n lines ≡ take k (numbered n lines) ++ (n + k, line) ∷ drop (suc k) (numbered n lines)
split_at n k [] line h = cc
split_at n zero (first ∷ lines) line h =
    let is : first ≡ line = cc in
    let number : n ≡ n + 0 = omega arith in
    rw (is, sym number) refl
split_at n (suc k) (first ∷ lines) line h =
    let number : n + 1 + k ≡ n + suc k = omega arith in
    ap (λ rest. (n, first) ∷ rest)
    (split_at (n + 1) k lines line h ∙ ap (λ m. take k (numbered (n + 1) lines) ++ (m, line) ∷ drop (suc k) (numbered (n + 1) lines)) number)

-- what is among the first lines is among the lines, with its number
pub among_first : (n k j : ℕ) (lines : List (List ℕ)) (x : ℕ × List ℕ) → slice_get (take k (numbered n lines)) j ≡ Some x
    → (j < k) × (x.0 ≡ n + j) × (slice_get lines j ≡ Some x.1)
among_first n zero j lines x h = cc
among_first n (suc k) j [] x h = cc
among_first n (suc k) zero (line ∷ lines) x h =
    let is : (n, line) ≡ x = cc in
    (omega arith, sym (ap (λ (p : ℕ × List ℕ). p.0) is) ∙ omega arith, ap (λ (p : ℕ × List ℕ). Some p.1) is)
among_first n (suc k) (suc j) (line ∷ lines) x h =
    let rest = among_first (n + 1) k j lines x h in
    (omega (arith, rest.0), rest.1 ∙ omega arith, rest.2)
