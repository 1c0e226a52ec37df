-- Where the first element is that passes a test.
use Rattle.ssh_files.proofs.Imports.{◌≡◌, ℕ, suc, [], ◌∷◌, ◌+◌, ◌≤◌, Bool, true, false, cond, not, ltb, List, length, Option, Some, None, refl, ap, ◌∙◌, arith, unwrap_or, position, position_or_len, prefix_len, ltb-false}

found_or_len : (b : Bool) (n len : ℕ) → ltb n len ≡ b → n ≤ len → unwrap_or (cond b (Some n) None) len ≡ n
found_or_len true n len e le = refl
found_or_len false n len e le = let past : len ≤ n = ltb-false _ _ e in omega arith

step : (b : Bool) (n len : ℕ) → n ≤ len → cond b (1 + n) 0 ≤ suc len
step true n len le = omega arith
step false n len le = omega arith

prefix_len-bound : (p : ℕ → Bool) (xs : List ℕ) → prefix_len p xs ≤ length xs
prefix_len-bound p [] = omega arith
prefix_len-bound p (x ∷ xs) = step (p x) (prefix_len p xs) (length xs) (prefix_len-bound p xs)

pub position_or_len_found : (p : ℕ → Bool) (xs : List ℕ) (o : Option ℕ) → o ≡ position p xs → unwrap_or o (length xs) ≡ position_or_len p xs
position_or_len_found p xs o e = ap (λ (q : Option ℕ). unwrap_or q (length xs)) e ∙ found_or_len (ltb (position_or_len p xs) (length xs)) (position_or_len p xs) (length xs) refl (prefix_len-bound (λ x. not (p x)) xs)
