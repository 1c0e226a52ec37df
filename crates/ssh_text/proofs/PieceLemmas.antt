-- The lines that come out of pieces are those of the file.
use Rattle.ssh_text.proofs.Imports.{◌≡◌, ◌≢◌, ℕ, zero, suc, ◌+◌, ◌-◌, ◌<◌, ◌≤◌, Bool, true, false, ◌==◌, List, [], ◌∷◌, ◌++◌, length, take, refl, sym, ap, subst, ◌∙◌, arith, append_assoc, append-nil, Some, slice_get, concat, eqb-true, eqb-false, take-append-drop, length-drop, lines_of, line_len, numbered, HasNoNewline, has_newline, up_to_newline, after_newline, unfinished, whole_lines, with_newlines, IsLastLine, ComeOut, ComesLast, ComeOutOf}
use Rattle.ssh_text.proofs.LineLemmas.{lines_of-last}
use Rattle.ssh_text.proofs.ScanLemmas.{at-last}
use Rattle.ssh_text.proofs.NewlineLemmas.{AreFree, AreFree-push, with_newlines-push, lines_of-after, lines_of-whole, unfinished-after, whole_lines-after, free-front, free-none, free-append, up_to-found, length-push, get-last}

-- ---- every list of bytes is whole lines and a rest

pub record Cut (bytes : List ℕ) : Type 0 where
  pub before : List (List ℕ)
  pub rest : List ℕ
  pub cut : AreFree before
  pub free : HasNoNewline rest
  pub whole : bytes ≡ with_newlines before ++ rest

onto-cut : (c : ℕ) (cs : List ℕ) (before : List (List ℕ)) (rest : List ℕ) → c ≢ 10 → AreFree before → HasNoNewline rest
    → cs ≡ with_newlines before ++ rest → Cut (c ∷ cs)
onto-cut c cs [] rest other h g e = record { before = []; rest = c ∷ rest; cut = tt; free = (other, g); whole = ap (λ s. c ∷ s) e }
onto-cut c cs (line ∷ before) rest other h g e =
    record { before = (c ∷ line) ∷ before; rest = rest; cut = ((other, h.0), h.1); free = g; whole = ap (λ s. c ∷ s) e }

step-cut : (c : ℕ) (cs : List ℕ) (b : Bool) → (c == 10) ≡ b → Cut cs → Cut (c ∷ cs)
step-cut c cs true t k =
    record { before = [] ∷ k.before; rest = k.rest; cut = (tt, k.cut); free = k.free; whole = ap (λ d. d ∷ cs) (eqb-true c 10 t) ∙ ap (λ s. 10 ∷ s) k.whole }
step-cut c cs false t k = onto-cut c cs k.before k.rest (eqb-false c 10 t) k.cut k.free k.whole

pub cut_of : (bytes : List ℕ) → Cut bytes
cut_of [] = record { before = []; rest = []; cut = tt; free = tt; whole = refl }
cut_of (c ∷ cs) = step-cut c cs (c == 10) refl (cut_of cs)

cut-whole_lines : (bytes : List ℕ) (k : Cut bytes) → whole_lines bytes ≡ k.before
cut-whole_lines bytes k = ap whole_lines k.whole ∙ whole_lines-after k.before k.rest k.cut k.free

cut-unfinished : (bytes : List ℕ) (k : Cut bytes) → unfinished bytes ≡ k.rest
cut-unfinished bytes k = ap unfinished k.whole ∙ unfinished-after k.before k.rest k.free

-- ---- the last line among the numbered ones

numbered-push : (n : ℕ) (lines : List (List ℕ)) (line : List ℕ) → numbered n (lines ++ line ∷ []) ≡ numbered n lines ++ (n + length lines, line) ∷ []
numbered-push n [] line = let z : n ≡ n + 0 = omega arith in ap (λ m. (m, line) ∷ []) z
numbered-push n (x ∷ lines) line =
    let z : n + 1 + length lines ≡ n + suc (length lines) = omega arith in
    ap (λ s. (n, x) ∷ s) (numbered-push (n + 1) lines line ∙ ap (λ m. numbered (n + 1) lines ++ (m, line) ∷ []) z)

some-same : (a b : List ℕ) → Some a ≡ Some b → a ≡ b
some-same a b e = cc

-- the last line is the one after the others, and its number the next
last-is : (bytes : List ℕ) (before : List (List ℕ)) (last : List ℕ) (number : ℕ) (line : List ℕ) → lines_of bytes ≡ before ++ last ∷ []
    → IsLastLine bytes number line → numbered 1 (lines_of bytes) ≡ numbered 1 before ++ (number, line) ∷ []
last-is bytes before last number line e h =
    let n : number ≡ length before + 1 = h.last ∙ ap (λ ls. length ls) e ∙ length-push before last in
    let m : number ≡ 1 + length before = omega arith in
    let i : number - 1 ≡ length before = omega arith in
    let found : slice_get (before ++ last ∷ []) (length before) ≡ Some line =
    ap (λ j. slice_get (before ++ last ∷ []) j) (sym i) ∙ ap (λ ls. slice_get ls (number - 1)) (sym e) ∙ h.at.1 in
    let same : last ≡ line = some-same last line (sym (get-last before last) ∙ found) in
    ap (numbered 1) e ∙ numbered-push 1 before last
    ∙ ap (λ k. numbered 1 before ++ (k, last) ∷ []) (sym m) ∙ ap (λ l. numbered 1 before ++ (number, l) ∷ []) same

-- ---- what a piece adds

-- a piece without an LF ends no line
pub adds-none : (used piece : List ℕ) → has_newline piece ≡ false → whole_lines (used ++ piece) ≡ whole_lines used
adds-none used piece e =
    let k = cut_of used in
    let more : Cut (used ++ piece) =
    record {
      before = k.before;
      rest = k.rest ++ piece;
      cut = k.cut;
      free = free-append k.rest piece k.free (free-none piece e);
      whole = ap (λ s. s ++ piece) k.whole ∙ append_assoc (with_newlines k.before) k.rest piece;
    } in
    cut-whole_lines (used ++ piece) more ∙ sym (cut-whole_lines used k)

-- a piece with an LF ends the line that was unfinished
ends : (used piece : List ℕ) (k : Cut used) → has_newline piece ≡ true
    → used ++ up_to_newline piece ≡ with_newlines (k.before ++ (k.rest ++ take (line_len piece) piece) ∷ [])
ends used piece k e =
    let front = take (line_len piece) piece in
    ap (λ s. used ++ s) (up_to-found piece e)
    ∙ ap (λ s. s ++ (front ++ 10 ∷ [])) k.whole
    ∙ append_assoc (with_newlines k.before) k.rest (front ++ 10 ∷ [])
    ∙ ap (λ s. with_newlines k.before ++ s) (sym (append_assoc k.rest front (10 ∷ [])))
    ∙ sym (with_newlines-push k.before (k.rest ++ front))

pub all-whole : (used piece : List ℕ) → has_newline piece ≡ true → lines_of (used ++ up_to_newline piece) ≡ whole_lines (used ++ up_to_newline piece)
all-whole used piece e =
    let k = cut_of used in
    let lines = k.before ++ (k.rest ++ take (line_len piece) piece) ∷ [] in
    let free = AreFree-push k.before (k.rest ++ take (line_len piece) piece) k.cut (free-append k.rest _ k.free (free-front piece)) in
    let is = ends used piece k e in
    ap lines_of is ∙ lines_of-whole lines free
    ∙ sym (ap whole_lines (is ∙ sym (append-nil (with_newlines lines))) ∙ whole_lines-after lines [] free tt)

pub adds-one : (used piece : List ℕ) (number : ℕ) (line : List ℕ) → has_newline piece ≡ true → IsLastLine (used ++ up_to_newline piece) number line
    → numbered 1 (whole_lines (used ++ up_to_newline piece)) ≡ numbered 1 (whole_lines used) ++ (number, line) ∷ []
adds-one used piece number line e h =
    let k = cut_of used in
    let last = k.rest ++ take (line_len piece) piece in
    let free = AreFree-push k.before last k.cut (free-append k.rest _ k.free (free-front piece)) in
    let lines : lines_of (used ++ up_to_newline piece) ≡ k.before ++ last ∷ [] =
    ap lines_of (ends used piece k e) ∙ lines_of-whole (k.before ++ last ∷ []) free in
    ap (numbered 1) (sym (all-whole used piece e)) ∙ last-is (used ++ up_to_newline piece) k.before last number line lines h
    ∙ ap (λ ls. numbered 1 ls ++ (number, line) ∷ []) (sym (cut-whole_lines used k))

-- ---- the end of the file

pub ends-none : (used : List ℕ) → unfinished used ≡ [] → lines_of used ≡ whole_lines used
ends-none used e =
    let k = cut_of used in
    let none : k.rest ≡ [] = sym (cut-unfinished used k) ∙ e in
    ap lines_of k.whole ∙ lines_of-after k.before k.rest k.cut ∙ ap (λ r. k.before ++ lines_of r) none ∙ append-nil k.before
    ∙ sym (cut-whole_lines used k)

pub ends-one : (used : List ℕ) (number : ℕ) (line : List ℕ) → 0 < length (unfinished used) → IsLastLine used number line
    → numbered 1 (lines_of used) ≡ numbered 1 (whole_lines used) ++ (number, line) ∷ []
ends-one used number line some h =
    let k = cut_of used in
    let rest = cut-unfinished used k in
    let more : k.rest ≢ [] = λ f. let n : length (unfinished used) ≡ 0 = ap (λ s. length s) (rest ∙ f) in absurd (omega arith) in
    let lines : lines_of used ≡ k.before ++ k.rest ∷ [] =
    ap lines_of k.whole ∙ lines_of-after k.before k.rest k.cut ∙ ap (λ ls. k.before ++ ls) (lines_of-last k.rest k.free more) in
    last-is used k.before k.rest number line lines h ∙ ap (λ ls. numbered 1 ls ++ (number, line) ∷ []) (sym (cut-whole_lines used k))

-- ---- over pieces

pub come_out : (used piece : List ℕ) (lines : List (ℕ × List ℕ)) → ComeOut used piece lines
    → numbered 1 (whole_lines (used ++ piece)) ≡ numbered 1 (whole_lines used) ++ lines
come_out used piece [] h = ap (numbered 1) (adds-none used piece h) ∙ sym (append-nil (numbered 1 (whole_lines used)))
come_out used piece ((number, line) ∷ lines) (e, last, more) =
    let cut : used ++ piece ≡ used ++ up_to_newline piece ++ after_newline piece =
    ap (λ s. used ++ s) (sym (take-append-drop (line_len piece + 1) piece)) ∙ sym (append_assoc used (up_to_newline piece) (after_newline piece)) in
    ap (λ s. numbered 1 (whole_lines s)) cut
    ∙ come_out (used ++ up_to_newline piece) (after_newline piece) lines more
    ∙ ap (λ s. s ++ lines) (adds-one used piece number line e last)
    ∙ append_assoc (numbered 1 (whole_lines used)) ((number, line) ∷ []) lines

comes_last : (used : List ℕ) (lines : List (ℕ × List ℕ)) → ComesLast used lines → numbered 1 (lines_of used) ≡ numbered 1 (whole_lines used) ++ lines
comes_last used [] h = ap (numbered 1) (ends-none used h) ∙ sym (append-nil (numbered 1 (whole_lines used)))
comes_last used ((number, line) ∷ lines) (some, last, none) =
    ends-one used number line some last ∙ ap (λ s. numbered 1 (whole_lines used) ++ (number, line) ∷ s) (sym none)

from_used : (used : List ℕ) (pieces : List (List ℕ)) (lines : List (ℕ × List ℕ)) → ComeOutOf used pieces lines
    → numbered 1 (lines_of (used ++ concat pieces)) ≡ numbered 1 (whole_lines used) ++ lines
from_used used [] lines h = ap (λ s. numbered 1 (lines_of s)) (append-nil used) ∙ comes_last used lines h
from_used used (piece ∷ pieces) lines (first, rest, e, h, more) =
    ap (λ s. numbered 1 (lines_of s)) (sym (append_assoc used piece (concat pieces)))
    ∙ from_used (used ++ piece) pieces rest more
    ∙ ap (λ s. s ++ rest) (come_out used piece first h)
    ∙ append_assoc (numbered 1 (whole_lines used)) first rest
    ∙ ap (λ s. numbered 1 (whole_lines used) ++ s) (sym e)

-- whatever the pieces are, the lines that came out are the numbered lines of the file
pub from_pieces : (pieces : List (List ℕ)) (lines : List (ℕ × List ℕ)) → ComeOutOf [] pieces lines → lines ≡ numbered 1 (lines_of (concat pieces))
from_pieces pieces lines h = sym (from_used [] pieces lines h)

-- ---- lines do come out of any pieces

abbrev SomeOut : List ℕ → List ℕ → Type 0
SomeOut used piece = (lines : List (ℕ × List ℕ)) × ComeOut used piece lines

-- the line that a piece ends, with its number
ended-line : (used piece : List ℕ) → has_newline piece ≡ true → (number : ℕ) × (line : List ℕ) × IsLastLine (used ++ up_to_newline piece) number line
ended-line used piece e =
    let k = cut_of used in
    let last = k.rest ++ take (line_len piece) piece in
    let free = AreFree-push k.before last k.cut (free-append k.rest _ k.free (free-front piece)) in
    let lines : lines_of (used ++ up_to_newline piece) ≡ k.before ++ last ∷ [] =
    ap lines_of (ends used piece k e) ∙ lines_of-whole (k.before ++ last ∷ []) free in
    (length k.before + 1, last, at-last (used ++ up_to_newline piece) (length k.before) k.before last lines refl)

step-out : (used piece : List ℕ) (b : Bool) → has_newline piece ≡ b
    → ((next : List ℕ) → SomeOut next (after_newline piece)) → SomeOut used piece
step-out used piece false e more = ([], e)
step-out used piece true e more =
    let (number, line, last) = ended-line used piece e in
    let (lines, out) = more (used ++ up_to_newline piece) in
    ((number, line) ∷ lines, (e, last, out))

some-out : (n : ℕ) (used piece : List ℕ) → length piece ≤ n → SomeOut used piece
some-out n used [] h = ([], refl)
some-out zero used (c ∷ cs) h = absurd (omega arith)
some-out (suc n) used (c ∷ cs) h =
    let cut = length-drop (line_len (c ∷ cs) + 1) (c ∷ cs) in
    let less : length (after_newline (c ∷ cs)) ≤ n = omega arith in
    step-out used (c ∷ cs) (has_newline (c ∷ cs)) refl (λ next. some-out n next (after_newline (c ∷ cs)) less)

some-last : (used rest : List ℕ) → unfinished used ≡ rest → (lines : List (ℕ × List ℕ)) × ComesLast used lines
some-last used [] e = ([], e)
some-last used (c ∷ cs) e =
    let k = cut_of used in
    let rest : k.rest ≡ c ∷ cs = sym (cut-unfinished used k) ∙ e in
    let more : k.rest ≢ [] = λ f. let n : length (c ∷ cs) ≡ 0 = ap (λ s. length s) (sym rest ∙ f) in absurd (omega arith) in
    let lines : lines_of used ≡ k.before ++ k.rest ∷ [] =
    ap lines_of k.whole ∙ lines_of-after k.before k.rest k.cut ∙ ap (λ ls. k.before ++ ls) (lines_of-last k.rest k.free more) in
    let long : length (unfinished used) ≡ suc (length cs) = ap (λ s. length s) e in
    ((length k.before + 1, k.rest) ∷ [], (omega arith, at-last used (length k.before) k.before k.rest lines refl, refl))

some-pieces : (used : List ℕ) (pieces : List (List ℕ)) → (lines : List (ℕ × List ℕ)) × ComeOutOf used pieces lines
some-pieces used [] = some-last used (unfinished used) refl
some-pieces used (piece ∷ pieces) =
    let (first, out) = some-out (length piece) used piece (omega arith) in
    let (rest, more) = some-pieces (used ++ piece) pieces in
    (first ++ rest, (first, rest, refl, out, more))

-- and so the numbered lines of the file do
pub pieces-give : (pieces : List (List ℕ)) → ComeOutOf [] pieces (numbered 1 (lines_of (concat pieces)))
pieces-give pieces =
    let (lines, out) = some-pieces [] pieces in
    subst (λ ls. ComeOutOf [] pieces ls) (from_pieces pieces lines out) out
