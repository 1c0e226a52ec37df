-- The lines of a file, as a function and as a relation.
use Rattle.ssh_text.proofs.Imports.{◌≡◌, ◌≢◌, ℕ, suc, ◌+◌, ◌<◌, Bool, true, false, cond, ◌==◌, if◌then◌else◌, inl, inr, List, [], ◌∷◌, ◌++◌, length, take, drop, refl, ap, ◌∙◌, arith, onto_first, AllByRecursion, eqb-true, eqb-false, ne_eqb, lines_of, numbered, line_len, AreLines}

abbrev HasNoNewline : List ℕ → Type 0
HasNoNewline line = AllByRecursion (λ c. c ≢ 10) line

-- what comes before the first LF is the first line
pub lines_of-first : (line rest : List ℕ) → HasNoNewline line → lines_of (line ++ 10 ∷ rest) ≡ line ∷ lines_of rest
lines_of-first [] rest h = refl
lines_of-first (c ∷ line) rest h =
    let free : (c == 10) ≡ false = ne_eqb c 10 h.0 in
    rw (free, lines_of-first line rest h.1) refl

-- what has no LF is one line, if it is not empty
pub lines_of-last : (line : List ℕ) → HasNoNewline line → line ≢ [] → lines_of line ≡ line ∷ []
lines_of-last [] h some = absurd (some refl)
lines_of-last (c ∷ []) h some = let free : (c == 10) ≡ false = ne_eqb c 10 h.0 in rw free refl
lines_of-last (c ∷ d ∷ line) h some =
    let free : (c == 10) ≡ false = ne_eqb c 10 h.0 in
    let more : (d ∷ line) ≢ [] = λ e. cc in
    ap (λ b. if b then [] ∷ lines_of (d ∷ line) else onto_first c (lines_of (d ∷ line))) free
    ∙ ap (λ ls. onto_first c ls) (lines_of-last (d ∷ line) h.1 more)

-- no other lines are those of the file
pub lines_of-only : (lines : List (List ℕ)) (file : List ℕ) → AreLines lines file → lines ≡ lines_of file
lines_of-only [] file h = rw h refl
lines_of-only (line ∷ lines) file (free, inl (rest, whole, more)) =
    rw (whole, lines_of-first line rest free) (ap (λ ls. line ∷ ls) (lines_of-only lines rest more))
lines_of-only (line ∷ lines) file (free, inr (none, whole, some)) = rw (whole, lines_of-last line free some) (ap (λ ls. line ∷ ls) none)

onto-lines : (c : ℕ) (lines : List (List ℕ)) (cs : List ℕ) → c ≢ 10 → AreLines lines cs → AreLines (onto_first c lines) (c ∷ cs)
onto-lines c [] cs free h =
    let some : (c ∷ []) ≢ [] = λ e. cc in
    ((free, tt), inr (refl, ap (λ s. c ∷ s) h, some))
onto-lines c (line ∷ lines) cs free (each, inl (rest, whole, more)) = ((free, each), inl (rest, ap (λ s. c ∷ s) whole, more))
onto-lines c (line ∷ lines) cs free (each, inr (none, whole, some)) =
    let more : (c ∷ line) ≢ [] = λ e. cc in
    ((free, each), inr (none, ap (λ s. c ∷ s) whole, more))

step-lines : (c : ℕ) (cs : List ℕ) (b : Bool) → (c == 10) ≡ b → AreLines (lines_of cs) cs
    → AreLines (if b then [] ∷ lines_of cs else onto_first c (lines_of cs)) (c ∷ cs)
step-lines c cs true e h = (tt, inl (cs, ap (λ x. x ∷ cs) (eqb-true c 10 e), h))
step-lines c cs false e h = onto-lines c (lines_of cs) cs (eqb-false c 10 e) h

-- the lines of a file are its lines
pub lines_of-are : (file : List ℕ) → AreLines (lines_of file) file
lines_of-are [] = refl
lines_of-are (c ∷ cs) = step-lines c cs (c == 10) refl (lines_of-are cs)

-- ---- the next line

-- one step of the cut: the rest is cut at n
step-cut : (c n : ℕ) (cs : List ℕ) (b : Bool) → lines_of cs ≡ take n cs ∷ lines_of (drop 1 (drop n cs))
    → (if b then [] ∷ lines_of cs else onto_first c (lines_of cs)) ≡ take (cond b 0 (suc n)) (c ∷ cs) ∷ lines_of (drop 1 (drop (cond b 0 (suc n)) (c ∷ cs)))
step-cut c n cs true h = refl
step-cut c n cs false h = ap (λ ls. onto_first c ls) h

cut : (c : ℕ) (cs : List ℕ) → lines_of (c ∷ cs) ≡ take (line_len (c ∷ cs)) (c ∷ cs) ∷ lines_of (drop 1 (drop (line_len (c ∷ cs)) (c ∷ cs)))
cut c [] = elim (c == 10) as (λ b. (if b then [] ∷ [] else (c ∷ []) ∷ []) ≡ take (cond b 0 1) (c ∷ []) ∷ lines_of (drop 1 (drop (cond b 0 1) (c ∷ [])))) [ true ↦ refl | false ↦ refl ]
cut c (d ∷ ds) = step-cut c (line_len (d ∷ ds)) (d ∷ ds) (c == 10) (cut d ds)

-- the first line, and the lines after its LF
pub lines_step : (n k : ℕ) (file : List ℕ) → k ≡ line_len file → 0 < length file
    → numbered n (lines_of file) ≡ (n, take k file) ∷ numbered (n + 1) (lines_of (drop 1 (drop k file)))
lines_step n k [] e some = absurd (omega arith)
lines_step n k (c ∷ cs) e some = rw e (ap (numbered n) (cut c cs))

pub lines_none : (n : ℕ) (file : List ℕ) → length file ≡ 0 → numbered n (lines_of file) ≡ []
lines_none n [] e = refl
lines_none n (c ∷ cs) e = absurd (omega arith)
