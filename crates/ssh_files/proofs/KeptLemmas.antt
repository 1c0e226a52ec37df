-- What is stored of bytes that come in pieces.
use Rattle.ssh_files.proofs.Imports.{◌≡◌, ◌∙◌, ◌+◌, ◌-◌, ◌<◌, ◌≤◌, ◌==◌, ◌||◌, min, ℕ, suc, zero, Bool, true, false, cond, not, ltb, List, [], ◌∷◌, ◌++◌, length, take, Some, None, refl, sym, ap, arith, inl, inr, position, position_or_len, cases_Bool, lt-ltb, le-ltb, ltb-true, ltb-false, append-nil, length-take, take-append-le, take_all, has_line_end, is_line_end, top_line}

-- ---- the front

take-past : (xs ys : List ℕ) (n : ℕ) → take (length xs + n) (xs ++ ys) ≡ xs ++ take n ys
take-past [] ys n = let none : length {A = ℕ} [] + n ≡ n = omega arith in rw none refl
take-past (x ∷ xs) ys n = let next : length (x ∷ xs) + n ≡ suc (length xs + n) = omega arith in rw next (ap (λ (l : List ℕ). x ∷ l) (take-past xs ys n))

take-none : (n : ℕ) → take {A = ℕ} n [] ≡ []
take-none zero = refl
take-none (suc n) = refl

take-least : (n : ℕ) (xs : List ℕ) → take (min (length xs) n) xs ≡ take n xs
take-least n [] = take-none (min (length {A = ℕ} []) n) ∙ sym (take-none n)
take-least zero (x ∷ xs) = let none : min (length (x ∷ xs)) 0 ≡ 0 = omega arith in rw none refl
take-least (suc n) (x ∷ xs) =
    let next : min (suc (length xs)) (suc n) ≡ suc (min (length xs) n) = omega arith in
    rw next (ap (λ (l : List ℕ). x ∷ l) (take-least n xs))

front-by : (most n : ℕ) (bytes piece : List ℕ) → n ≡ min (length piece) (most - length (take most bytes)) → take most bytes ++ take n piece ≡ take most (bytes ++ piece)
front-by most n bytes piece e =
    elim (cases_Bool (ltb (length bytes) most)) [
      | inl short ↦
          let less : length bytes < most = grind arith in
          let all : take most bytes ≡ bytes = take_all most bytes (omega arith) in
          let rest : n ≡ min (length piece) (most - length bytes) = rw all at e in
          let sum : most ≡ length bytes + (most - length bytes) = omega arith in
          rw (all, rest, take-least (most - length bytes) piece) (sym (take-past bytes piece (most - length bytes)) ∙ ap (λ (m : ℕ). take m (bytes ++ piece)) (sym sum))
      | inr long ↦
          let least : most ≤ length bytes = grind arith in
          let size : length (take most bytes) ≡ most = length-take most bytes ∙ grind arith in
          let none : n ≡ 0 = grind arith in
          rw none (append-nil (take most bytes) ∙ sym (take-append-le most bytes piece least))
    ]

-- the front of what is known so far, and of one more piece
pub front_more : (most n : ℕ) (bytes piece kept : List ℕ) → n ≡ min (length piece) (most - length kept) → kept ≡ take most bytes → kept ++ take n piece ≡ take most (bytes ++ piece)
front_more most n bytes piece kept e is = let f = front-by most n bytes piece (rw is at e) in rw is f

-- ---- the first line

cut-by : (b : Bool) (x p : ℕ) (xs rest : List ℕ) → rest ≡ take p xs → cond b [] (x ∷ rest) ≡ take (cond (not b) (1 + p) 0) (x ∷ xs)
cut-by true x p xs rest e = refl
cut-by false x p xs rest e = let next : 1 + p ≡ suc p = omega arith in rw next (ap (λ (l : List ℕ). x ∷ l) e)

cut-position : (xs : List ℕ) → top_line xs ≡ take (position_or_len is_line_end xs) xs
cut-position [] = refl
cut-position (x ∷ xs) = cut-by (x == 10) x (position_or_len is_line_end xs) xs (top_line xs) (cut-position xs)

less-next : (p n : ℕ) (less : Bool) → ltb p n ≡ less → less ≡ ltb (1 + p) (suc n)
less-next p n true e = let lt : p < n = ltb-true p n e in sym (lt-ltb (1 + p) (suc n) (omega arith))
less-next p n false e = let le : n ≤ p = ltb-false p n e in sym (le-ltb (1 + p) (suc n) (omega arith))

has-by : (b rest : Bool) (p n : ℕ) → rest ≡ ltb p n → (b || rest) ≡ ltb (cond (not b) (1 + p) 0) (suc n)
has-by true rest p n e = sym (lt-ltb 0 (suc n) (omega arith))
has-by false rest p n e = e ∙ less-next p n (ltb p n) refl

has-position : (xs : List ℕ) → has_line_end xs ≡ ltb (position_or_len is_line_end xs) (length xs)
has-position [] = refl
has-position (x ∷ xs) = has-by (x == 10) (has_line_end xs) (position_or_len is_line_end xs) (length xs) (has-position xs)

none-by : (b rest : Bool) (x : ℕ) (xs line : List ℕ) → (b || rest) ≡ false → (rest ≡ false → line ≡ xs) → cond b [] (x ∷ line) ≡ x ∷ xs
none-by true rest x xs line h f = cc
none-by false rest x xs line h f = ap (λ (l : List ℕ). x ∷ l) (f h)

none-ended : (xs : List ℕ) → has_line_end xs ≡ false → top_line xs ≡ xs
none-ended [] h = refl
none-ended (x ∷ xs) h = none-by (x == 10) (has_line_end xs) x xs (top_line xs) h (none-ended xs)

found-by : (b : Bool) (n m : ℕ) → Some n ≡ cond b (Some m) None → (n ≡ m) × (true ≡ b)
found-by true n m h = (cc, refl)
found-by false n m h = cc

missed-by : (b : Bool) (m : ℕ) → None ≡ cond b (Some m) None → b ≡ false
missed-by true m h = cc
missed-by false m h = refl

pub line_found : (xs : List ℕ) (n : ℕ) → Some n ≡ position is_line_end xs → (take n xs ≡ top_line xs) × (true ≡ has_line_end xs)
line_found xs n h =
    let found = found-by (ltb (position_or_len is_line_end xs) (length xs)) n (position_or_len is_line_end xs) h in
    (ap (λ (k : ℕ). take k xs) found.0 ∙ sym (cut-position xs), found.1 ∙ sym (has-position xs))

pub line_missed : (xs : List ℕ) → None ≡ position is_line_end xs → (xs ≡ top_line xs) × (false ≡ has_line_end xs)
line_missed xs h =
    let missed = has-position xs ∙ missed-by (ltb (position_or_len is_line_end xs) (length xs)) (position_or_len is_line_end xs) h in
    (sym (none-ended xs missed), sym missed)

-- a first line, with one more piece: after its LF it goes no further
pub record GoesOn (ended : Bool) (xs ys : List ℕ) : Type 0 where
  pub line : top_line (xs ++ ys) ≡ cond ended (top_line xs) (top_line xs ++ top_line ys)
  pub end : has_line_end (xs ++ ys) ≡ (ended || has_line_end ys)

on-by : (b ended : Bool) (x : ℕ) (more line new : List ℕ) → more ≡ cond ended line (line ++ new) → cond b [] (x ∷ more) ≡ cond (b || ended) (cond b [] (x ∷ line)) (cond b [] (x ∷ line) ++ new)
on-by true ended x more line new e = refl
on-by false true x more line new e = ap (λ (l : List ℕ). x ∷ l) e
on-by false false x more line new e = ap (λ (l : List ℕ). x ∷ l) e

end-by : (b e n m : Bool) → m ≡ (e || n) → (b || m) ≡ ((b || e) || n)
end-by true e n m h = refl
end-by false e n m h = h

pub line_goes_on : (xs ys : List ℕ) → GoesOn (has_line_end xs) xs ys
line_goes_on [] ys = record { line = refl; end = refl }
line_goes_on (x ∷ xs) ys =
    let h = line_goes_on xs ys in
    record {
      line = on-by (x == 10) (has_line_end xs) x (top_line (xs ++ ys)) (top_line xs) (top_line ys) h.line;
      end = end-by (x == 10) (has_line_end xs) (has_line_end ys) (has_line_end (xs ++ ys)) h.end;
    }

-- the same by what is stored
pub line_more : (xs ys kept : List ℕ) → false ≡ has_line_end xs → kept ≡ top_line xs → (kept ++ top_line ys ≡ top_line (xs ++ ys)) × (has_line_end ys ≡ has_line_end (xs ++ ys))
line_more xs ys kept none is =
    let h = line_goes_on xs ys in
    (ap (λ (l : List ℕ). l ++ top_line ys) is ∙ sym (h.line ∙ rw (sym none) refl), sym (h.end ∙ rw (sym none) refl))

pub line_kept : (xs ys kept : List ℕ) → true ≡ has_line_end xs → kept ≡ top_line xs → (kept ≡ top_line (xs ++ ys)) × (true ≡ has_line_end (xs ++ ys))
line_kept xs ys kept all is =
    let h = line_goes_on xs ys in
    (is ∙ sym (h.line ∙ rw (sym all) refl), sym (h.end ∙ rw (sym all) refl))
