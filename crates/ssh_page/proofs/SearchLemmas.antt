-- A search of a marked text passes over text, and over each piece that it does not look for.
use Rattle.std.proofs.Common.{◌≡◌, ◌∙◌, ◌+◌, ◌==◌, ℕ, nat_le, nat_lt, Bool, true, false, cond, List, [], ◌∷◌, ◌++◌, refl, ap, append_assoc, arith, ltb-true, ne_eqb}
use Rattle.std.specs.Fmt.{decimal}
use Rattle.std.proofs.lemmas.Bool.{and_parts}
use denote.Enum.Declared.{tag_of}
use Rattle.ssh_print.specs.Texts.{escaped_text}
use Rattle.ssh_page.specs.contracts.piece.Piece as piece_type
use Rattle.ssh_page.specs.declared.piece.Piece.{Piece}
use Rattle.ssh_page.specs.declared.piece.Piece.TheVariants as piece
use Rattle.ssh_page.specs.Documents.{Document, IsOfBytes, nothing, put, say, tell, copied, count, marks, ◌&◌}
use Rattle.ssh_page.specs.KeyRows.{behind}
use Rattle.ssh_page.specs.Pieces.{mark}
use Rattle.ssh_page.specs.Shown.{are_printable, is_printable}
use Rattle.ssh_page.proofs.PrintableLemmas.{decimal-printable, escaped-printable}

pub no-mark : (p : Piece) (b : ℕ) → is_printable b ≡ true → (b == mark p) ≡ false
unfolding mark
no-mark p b h =
    let few = ltb-true b 127 (and_parts (nat_le 32 b) (nat_lt b 127) h).1 in
    ne_eqb b (128 + tag_of piece_type.the_type p) (λ e. omega (arith, few, e))

-- A search of a marked text, and the bytes at which it may stop; it passes over the others, and over all text.
pub record Search (A : Type 0) : Type 0 where
  pub of : List ℕ → A
  pub stops : ℕ → Bool
  pub passes : (b : ℕ) (rest : List ℕ) → stops b ≡ false → of (b ∷ rest) ≡ of rest
  pub reads_on : (b : ℕ) → is_printable b ≡ true → stops b ≡ false

-- none of these bytes is a piece of the part
abbrev pub Lacks : (ℕ → Bool) → Document → Type 0
Lacks stops nothing = Unit {0}
Lacks stops (put p) = stops (mark p) ≡ false
Lacks stops (say text) = Unit {0}
Lacks stops (tell text) = (stops (mark piece.Code) ≡ false) × (stops (mark piece.CodeEnd) ≡ false)
Lacks stops (copied text) = (stops (mark piece.Code) ≡ false) × (stops (mark piece.CodeEnd) ≡ false)
Lacks stops (count n) = Unit {0}
Lacks stops (a & b) = Lacks stops a × Lacks stops b

pub past-text : {A : Type 0} (s : Search A) (text rest : List ℕ) → are_printable text ≡ true → s.of (text ++ rest) ≡ s.of rest
past-text s [] rest h = refl
past-text s (b ∷ text) rest h =
    let both = and_parts (is_printable b) (are_printable text) h in
    s.passes b (text ++ rest) (s.reads_on b both.0) ∙ past-text s text rest both.1

past-copied : {A : Type 0} (s : Search A) (text rest : List ℕ) → are_printable text ≡ true → s.stops (mark piece.Code) ≡ false → s.stops (mark piece.CodeEnd) ≡ false
    → s.of (marks (copied text) ++ rest) ≡ s.of rest
past-copied s text rest h one two =
    s.passes (mark piece.Code) ((text ++ mark piece.CodeEnd ∷ []) ++ rest) one
    ∙ ap s.of (append_assoc text (mark piece.CodeEnd ∷ []) rest) ∙ past-text s text (mark piece.CodeEnd ∷ rest) h
    ∙ s.passes (mark piece.CodeEnd) rest two

pub past : {A : Type 0} (s : Search A) (d : Document) → IsOfBytes d → Lacks s.stops d → (rest : List ℕ) → s.of (marks d ++ rest) ≡ s.of rest
past s nothing are h rest = refl
past s (put p) are h rest = s.passes (mark p) rest h
past s (say text) are h rest = past-text s (escaped_text text) rest (escaped-printable text are)
past s (tell text) are h rest = past-copied s (escaped_text text) rest (escaped-printable text are) h.0 h.1
past s (copied text) are h rest = past-copied s text rest are h.0 h.1
past s (count n) are h rest = past-text s (decimal n) rest (decimal-printable n)
past s (a & b) are h rest =
    ap s.of (append_assoc (marks a) (marks b) rest) ∙ past s a are.0 h.0 (marks b ++ rest) ∙ past s b are.1 h.1 rest

-- the search for the first piece of a kind
abbrev pub behind_piece : Piece → Search (List ℕ)
behind_piece p = record {
  of = behind p;
  stops = λ b. b == mark p;
  passes = λ b rest h. ap (λ is. cond is rest (behind p rest)) h;
  reads_on = no-mark p;
}
