-- Bytes cut at their LFs.
use Rattle.ssh_text.proofs.Imports.{◌≡◌, ◌≢◌, ℕ, suc, ◌+◌, Bool, true, false, cond, ◌||◌, ◌==◌, inl, inr, List, [], ◌∷◌, ◌++◌, length, take, refl, sym, ap, ◌∙◌, arith, append_assoc, append-nil, Some, slice_get, count_by, AllByRecursion, cases_Bool, eqb-true, eqb-false, ne_eqb, length-append, take_all, sum_by-append, lines_of, line_len, HasNoNewline, has_newline, is_newline, up_to_newline, unfinished, whole_lines, with_newlines}
use Rattle.ssh_text.proofs.LineLemmas.{lines_of-first}

-- ---- the first LF of a piece

pub free-front : (piece : List ℕ) → HasNoNewline (take (line_len piece) piece)
free-front [] = tt
free-front (c ∷ cs) =
    elim (cases_Bool (c == 10)) [
      | inl e ↦ rw e tt
      | inr e ↦ rw e (eqb-false c 10 e, free-front cs)
    ]

pub none-found : (piece : List ℕ) → line_len piece ≡ length piece → has_newline piece ≡ false
none-found [] e = refl
none-found (c ∷ cs) e =
    elim (cases_Bool (c == 10)) [
      | inl t ↦ let f : 0 ≡ suc (length cs) = sym (ap (λ b. cond b 0 (suc (line_len cs))) t) ∙ e in absurd (omega arith)
      | inr t ↦
          let f : suc (line_len cs) ≡ suc (length cs) = sym (ap (λ b. cond b 0 (suc (line_len cs))) t) ∙ e in
          rw t (none-found cs (omega arith))
    ]

pub found : (piece : List ℕ) → (line_len piece ≡ length piece → ⊥) → has_newline piece ≡ true
found [] e = absurd (e refl)
found (c ∷ cs) e =
    elim (cases_Bool (c == 10)) [
      | inl t ↦ rw t refl
      | inr t ↦ rw t (found cs (λ f. e (ap (λ b. cond b 0 (suc (line_len cs))) t ∙ ap suc f)))
    ]

-- what holds with an LF further on, where the first byte is not one
later : (cs : List ℕ) (b : Bool) → b ≡ false → (b || has_newline cs) ≡ true → has_newline cs ≡ true
later cs false t e = e
later cs true t e = cc

-- a piece that has an LF, up to and with it
pub up_to-found : (piece : List ℕ) → has_newline piece ≡ true → up_to_newline piece ≡ take (line_len piece) piece ++ 10 ∷ []
up_to-found [] e = cc
up_to-found (c ∷ cs) e =
    elim (cases_Bool (c == 10)) [
      | inl t ↦ rw t (ap (λ d. d ∷ []) (eqb-true c 10 t))
      | inr t ↦
          let f = up_to-found cs (later cs (c == 10) t e) in
          let one : suc (line_len cs) + 1 ≡ suc (line_len cs + 1) = omega arith in
          rw (t, one) (ap (λ s. c ∷ s) f)
    ]

-- a piece without one, which is used whole
pub up_to-all : (n : ℕ) (piece : List ℕ) → n ≡ line_len piece → n ≡ length piece → take n piece ≡ up_to_newline piece
up_to-all n piece e f = take_all n piece (omega arith) ∙ sym (take_all (line_len piece + 1) piece (omega arith))

free-step : (c : ℕ) (cs : List ℕ) (b : Bool) → (c == 10) ≡ b → (b || has_newline cs) ≡ false
    → (has_newline cs ≡ false → HasNoNewline cs) → HasNoNewline (c ∷ cs)
free-step c cs true t e more = cc
free-step c cs false t e more = (eqb-false c 10 t, more e)

pub free-none : (bytes : List ℕ) → has_newline bytes ≡ false → HasNoNewline bytes
free-none [] e = tt
free-none (c ∷ cs) e = free-step c cs (c == 10) refl e (free-none cs)

pub none-free : (bytes : List ℕ) → HasNoNewline bytes → has_newline bytes ≡ false
none-free [] h = refl
none-free (c ∷ cs) h = let t : (c == 10) ≡ false = ne_eqb c 10 h.0 in rw t (none-free cs h.1)

pub free-append : (a b : List ℕ) → HasNoNewline a → HasNoNewline b → HasNoNewline (a ++ b)
free-append [] b h g = g
free-append (c ∷ a) b h g = (h.0, free-append a b h.1 g)

-- ---- lines, each with its LF

abbrev pub AreFree : List (List ℕ) → Type 0
AreFree lines = AllByRecursion HasNoNewline lines

pub AreFree-push : (lines : List (List ℕ)) (line : List ℕ) → AreFree lines → HasNoNewline line → AreFree (lines ++ line ∷ [])
AreFree-push [] line h g = (g, tt)
AreFree-push (x ∷ lines) line h g = (h.0, AreFree-push lines line h.1 g)

pub with_newlines-push : (lines : List (List ℕ)) (line : List ℕ)
    → with_newlines (lines ++ line ∷ []) ≡ with_newlines lines ++ (line ++ 10 ∷ [])
with_newlines-push [] line = refl
with_newlines-push (x ∷ lines) line =
    ap (λ s. x ++ 10 ∷ s) (with_newlines-push lines line) ∙ sym (append_assoc x (10 ∷ with_newlines lines) (line ++ 10 ∷ []))

-- the lines of whole lines and a rest
pub lines_of-after : (before : List (List ℕ)) (rest : List ℕ) → AreFree before
    → lines_of (with_newlines before ++ rest) ≡ before ++ lines_of rest
lines_of-after [] rest h = refl
lines_of-after (line ∷ before) rest h =
    ap lines_of (append_assoc line (10 ∷ with_newlines before) rest)
    ∙ lines_of-first line (with_newlines before ++ rest) h.0
    ∙ ap (λ ls. line ∷ ls) (lines_of-after before rest h.1)

pub lines_of-whole : (before : List (List ℕ)) → AreFree before → lines_of (with_newlines before) ≡ before
lines_of-whole before h =
    ap lines_of (sym (append-nil (with_newlines before))) ∙ lines_of-after before [] h ∙ append-nil before

-- ---- what follows the last LF

unfinished-free : (bytes : List ℕ) → HasNoNewline bytes → unfinished bytes ≡ bytes
unfinished-free [] h = refl
unfinished-free (c ∷ cs) h = let e = none-free (c ∷ cs) h in rw e refl

has-after : (line rest : List ℕ) → has_newline (line ++ 10 ∷ rest) ≡ true
has-after [] rest = refl
has-after (c ∷ line) rest = elim (cases_Bool (c == 10)) [ inl t ↦ rw t refl | inr t ↦ rw t (has-after line rest) ]

unfinished-line : (line rest : List ℕ) → unfinished (line ++ 10 ∷ rest) ≡ unfinished rest
unfinished-line [] rest = refl
unfinished-line (c ∷ line) rest = let e = has-after (c ∷ line) rest in rw e (unfinished-line line rest)

pub unfinished-after : (before : List (List ℕ)) (rest : List ℕ) → HasNoNewline rest → unfinished (with_newlines before ++ rest) ≡ rest
unfinished-after [] rest h = unfinished-free rest h
unfinished-after (line ∷ before) rest h =
    ap unfinished (append_assoc line (10 ∷ with_newlines before) rest)
    ∙ unfinished-line line (with_newlines before ++ rest) ∙ unfinished-after before rest h

-- ---- the lines that have their LF

count-cons : (c : ℕ) (cs : List ℕ) → count_by is_newline (c ∷ cs) ≡ cond (c == 10) 1 0 + count_by is_newline cs
count-cons c cs =
    let e = sum_by-append (λ d. cond (is_newline d) 1 0) (c ∷ []) cs in
    let one : 0 + cond (c == 10) 1 0 + count_by is_newline cs ≡ cond (c == 10) 1 0 + count_by is_newline cs = omega arith in
    e ∙ one

count-other : (c : ℕ) (cs : List ℕ) → c ≢ 10 → count_by is_newline (c ∷ cs) ≡ count_by is_newline cs
count-other c cs h =
    let t : (c == 10) ≡ false = ne_eqb c 10 h in
    let one : 0 + count_by is_newline cs ≡ count_by is_newline cs = omega arith in
    count-cons c cs ∙ ap (λ b. cond b 1 0 + count_by is_newline cs) t ∙ one

count-free : (bytes : List ℕ) → HasNoNewline bytes → count_by is_newline bytes ≡ 0
count-free [] h = refl
count-free (c ∷ cs) h = count-other c cs h.0 ∙ count-free cs h.1

count-line : (line rest : List ℕ) → HasNoNewline line → count_by is_newline (line ++ 10 ∷ rest) ≡ suc (count_by is_newline rest)
count-line [] rest h =
    let one : 1 + count_by is_newline rest ≡ suc (count_by is_newline rest) = omega arith in
    count-cons 10 rest ∙ one
count-line (c ∷ line) rest h = count-other c (line ++ 10 ∷ rest) h.0 ∙ count-line line rest h.1

count-after : (before : List (List ℕ)) (rest : List ℕ) → AreFree before → HasNoNewline rest
    → count_by is_newline (with_newlines before ++ rest) ≡ length before
count-after [] rest h g = count-free rest g
count-after (line ∷ before) rest h g =
    ap (λ s. count_by is_newline s) (append_assoc line (10 ∷ with_newlines before) rest)
    ∙ count-line line (with_newlines before ++ rest) h.0 ∙ ap suc (count-after before rest h.1 g)

take-front : {X : Type 0} (xs ys : List X) → take (length xs) (xs ++ ys) ≡ xs
take-front [] ys = refl
take-front (x ∷ xs) ys = ap (λ s. x ∷ s) (take-front xs ys)

pub whole_lines-after : (before : List (List ℕ)) (rest : List ℕ) → AreFree before → HasNoNewline rest
    → whole_lines (with_newlines before ++ rest) ≡ before
whole_lines-after before rest h g =
    ap (λ n. take n (lines_of (with_newlines before ++ rest))) (count-after before rest h g)
    ∙ ap (λ ls. take (length before) ls) (lines_of-after before rest h) ∙ take-front before (lines_of rest)

-- ---- the last line

pub length-push : {X : Type 0} (xs : List X) (x : X) → length (xs ++ x ∷ []) ≡ length xs + 1
length-push xs x = length-append xs (x ∷ [])

pub get-last : {X : Type 0} (xs : List X) (x : X) → slice_get (xs ++ x ∷ []) (length xs) ≡ Some x
get-last [] x = refl
get-last (y ∷ xs) x = get-last xs x
