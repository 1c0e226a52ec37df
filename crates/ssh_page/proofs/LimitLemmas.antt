-- What the cells of rights and limits say of a row: its rights are limited where it is the row of an entry that has not all of them,
-- or that something limits.
use Rattle.std.proofs.Common.{◌≡◌, ◌∙◌, ◌==◌, ◌||◌, ◌&&◌, ℕ, suc, ℤ, Bool, true, false, not, cond, List, [], ◌∷◌, ◌++◌, length, refl, ap, sym, append_assoc, arith, ne_eqb}
use Rattle.std.specs.Prelude.{Option, Some, None, is_none, codes}
use Rattle.std.proofs.lemmas.Bool.{and_parts}
use Rattle.ssh_findings.specs.declared.facts.Facts.{Facts}
use Rattle.ssh_rights.specs.declared.rights.Carried.{Carried}
use Rattle.ssh_print.specs.Texts.{escaped_text}
use Rattle.ssh_page.specs.declared.piece.Piece.TheVariants as piece
use Rattle.ssh_page.specs.Documents.{Document, IsOfBytes, put, say, each, marks, ◌&◌}
use Rattle.ssh_page.specs.KeyRows.{has_front, is_limited, is_unlimited}
use Rattle.ssh_page.specs.Pieces.{mark}
use Rattle.ssh_page.specs.Records.{all_limits, carried_part, command_part, flag_part, limits_part, put_if, right_marks, right_piece, rights_part, setting_part, until_part, words_part}
use Rattle.ssh_page.specs.Shown.{are_printable, is_printable}
use Rattle.ssh_page.proofs.PrintableLemmas.{escaped-printable}
use Rattle.ssh_page.proofs.SearchLemmas.{no-mark}

-- Whether the rights of a row are limited, by what stands behind the first piece of their cell, wherever the row goes on.
pub record Limits (d : Document) (limited : Bool) : Type 0 where
  pub by : (rest : List ℕ) → is_limited (marks d ++ rest) ≡ limited

-- ---- cells without rights

pub unknown_limits : Limits (put piece.RightsUnknown) false
unfolding mark
unknown_limits = record { by = λ rest. refl }

no-rights : (x y z w : Bool) → x ≡ false → y ≡ false → z ≡ false → (((x && true) || ((y && true) || (z && true))) && w) ≡ false
no-rights x y z w a b c =
    ap (λ p. ((p && true) || ((y && true) || (z && true))) && w) a ∙ ap (λ p. (false || ((p && true) || (z && true))) && w) b
    ∙ ap (λ p. (false || (false || (p && true))) && w) c

words-free : (text rest : List ℕ) → are_printable text ≡ true → is_limited (text ++ mark piece.LimitsCell ∷ rest) ≡ false
unfolding mark
words-free [] rest h = refl
words-free (b ∷ text) rest h =
    let own = (and_parts (is_printable b) (are_printable text) h).0 in
    no-rights (b == mark piece.Port) (b == mark piece.RightOff) (b == mark piece.NoRights) _ (no-mark piece.Port b own) (no-mark piece.RightOff b own) (no-mark piece.NoRights b own)

pub words_limits : (text : List ℕ) → IsOfBytes (say text) → Limits (say text & put piece.LimitsCell) false
words_limits text are = record {
  by = λ rest.
      ap is_limited (append_assoc (escaped_text text) (mark piece.LimitsCell ∷ []) rest) ∙ words-free (escaped_text text) rest (escaped-printable text are);
}

-- ---- limits

and-none : (b : Bool) → (b && false) ≡ false
and-none true = refl
and-none false = refl

-- the first of all limits is that there is none, where there is none
limits-first : (a n v : Bool) (c : Option (List ℕ)) (k : List Carried) (from principals : Option (List ℕ)) (until : Option ℤ) (rest : List ℕ)
    → has_front (piece.NoLimit ∷ []) (marks (flag_part a (codes "authority: whoever it certifies") & (setting_part (codes "command ") c & each carried_part k)
    & (flag_part n (codes "no-touch-required") & flag_part v (codes "verify-required") & setting_part (codes "from ") from & setting_part (codes "principals ") principals & until_part until)
    & put_if (not (a || (n || v)) && ((is_none c && length k == 0) && (is_none from && (is_none principals && is_none until)))) piece.NoLimit) ++ rest)
    ≡ (not (a || (n || v)) && ((is_none c && length k == 0) && (is_none from && (is_none principals && is_none until))))
unfolding mark carried_part words_part
limits-first true n v c k from principals until rest = refl
limits-first false n v (Some text) k from principals until rest = sym (and-none (not (n || v)))
limits-first false n v None (x ∷ k) from principals until rest =
    let some : (suc (length k) == 0) ≡ false = ne_eqb (suc (length k)) 0 (λ e. omega (arith, e)) in
    sym (ap (λ none. not (n || v) && (none && (is_none from && (is_none principals && is_none until)))) some ∙ and-none (not (n || v)))
limits-first false true v None [] from principals until rest = refl
limits-first false false true None [] from principals until rest = refl
limits-first false false false None [] (Some text) principals until rest = refl
limits-first false false false None [] None (Some text) until rest = refl
limits-first false false false None [] None None (Some moment) rest = refl
limits-first false false false None [] None None None rest = refl

-- ---- rights

first-off : (b a x t u : Bool) (m : List ℕ)
    → is_limited (marks (cond b (put piece.NoRights)
    (put piece.RightOff & put (right_piece a piece.Agent) & put (right_piece x piece.X11) & put (right_piece t piece.Pty) & put (right_piece u piece.UserRc))) ++ mark piece.LimitsCell ∷ m)
    ≡ true
unfolding mark
first-off true a x t u m = refl
first-off false a x t u m = refl

rights-said : (p a x t u free : Bool) (m : List ℕ) → has_front (piece.NoLimit ∷ []) m ≡ free
    → is_limited (marks (cond (not (p || (a || (x || (t || u))))) (put piece.NoRights)
    (put (right_piece p piece.Port) & put (right_piece a piece.Agent) & put (right_piece x piece.X11) & put (right_piece t piece.Pty) & put (right_piece u piece.UserRc))) ++ mark piece.LimitsCell ∷ m)
    ≡ not ((p && (a && (x && (t && u)))) && free)
unfolding mark
rights-said true true true true true free m h = ap not h
rights-said true true true true false free m h = refl
rights-said true true true false u free m h = refl
rights-said true true false t u free m h = refl
rights-said true false x t u free m h = refl
rights-said false a x t u free m h = first-off (not (a || (x || (t || u)))) a x t u m

cells-joined : (r l y : List ℕ) (c : ℕ) → ((r ++ c ∷ []) ++ l) ++ y ≡ r ++ c ∷ (l ++ y)
cells-joined r l y c = simp append_assoc

first-limit : (f : Facts) (rest : List ℕ) → has_front (piece.NoLimit ∷ []) (marks (all_limits f) ++ rest) ≡ (not (f.is_authority || (f.no_touch_required || f.verify_required)) && ((is_none f.rights.command && length f.rights.carried == 0) && (is_none f.from && (is_none f.principals && is_none f.until))))
unfolding all_limits command_part limits_part
first-limit f rest = limits-first f.is_authority f.no_touch_required f.verify_required f.rights.command f.rights.carried f.from f.principals f.until rest

pub rights_limits : (f : Facts) → Limits (rights_part f.rights & put piece.LimitsCell & all_limits f) (not (is_unlimited f))
unfolding right_marks
rights_limits f = record {
  by = λ rest.
      ap is_limited (cells-joined (marks (rights_part f.rights)) (marks (all_limits f)) rest (mark piece.LimitsCell))
      ∙ rights-said f.rights.port f.rights.agent f.rights.x11 f.rights.pty f.rights.user_rc _ (marks (all_limits f) ++ rest) (first-limit f rest);
}
