-- Blocks, byte by byte.
use Rattle.ssh_entries.proofs.Imports.{◌≡◌, ℕ, ◌+◌, ◌-◌, List, ◌++◌, length, map, take, drop, replicate, ap, sym, ◌∙◌, drop-replicate, length-append, length-map, take-append-drop}

-- what is left of a block of zeros
pub zeros_left : (n : ℕ) → drop {A = ℕ} n (replicate 64 0) ≡ replicate (64 - n) 0
zeros_left n = drop-replicate n 64 0

-- a block of which some bytes are changed is as long as before
pub changed_length : (f : ℕ → ℕ) (xs ys : List ℕ) (n : ℕ) → ys ≡ map f (take n xs) ++ drop n xs → length ys ≡ length xs
changed_length f xs ys n h =
    ap length h ∙ length-append (map f (take n xs)) (drop n xs) ∙ ap (λ k. k + length (drop n xs)) (length-map (take n xs) f)
    ∙ sym (length-append (take n xs) (drop n xs)) ∙ ap length (take-append-drop n xs)
