-- Texts of printable bytes and LFs, and in a table tabs, one after the other.
use Rattle.ssh_review.proofs.Imports.{◌≡◌, ◌∙◌, ℕ, ◌==◌, Bool, true, false, ◌&&◌, ◌||◌, cond, List, [], ◌∷◌, ◌++◌, length, refl, ap, arith, eqb-true, list_all-append, are_printable, is_line, is_printable, are_shown, are_shown_in, is_shown, is_shown_in, is_shown_or_tab, Form, Json, Line, Text, codes, subst, sym}
use Rattle.std.specs.List.{list_all}
use Rattle.ssh_page.specs.declared.file.FileKind.{FileKind}
use Rattle.ssh_review.proofs.PrintableLemmas.{ArePrintable}
use Rattle.ssh_review.specs.Tables.{IsRow, is_in_row}

-- A text is of printable bytes and LFs. As a record, so that a proof finds the text.
pub record AreShown (text : List ℕ) : Type 0 where
  pub all : are_shown text ≡ true

pub show : (text : List ℕ) → are_shown text ≡ true → AreShown text
show text h = record { all = h }

pub add : {a b : List ℕ} → AreShown a → AreShown b → AreShown (a ++ b)
add {a} {b} h k = record { all = list_all-append is_shown a b ∙ ap (λ t. t && are_shown b) h.all ∙ k.all }

from-printable-by : (text : List ℕ) → are_printable text ≡ true → are_shown text ≡ true
from-printable-by [] h = refl
from-printable-by (c ∷ cs) h = go (is_printable c) (from-printable-by cs) h
  where
    go : (p : Bool) → (are_printable cs ≡ true → are_shown cs ≡ true) → (p && are_printable cs) ≡ true → ((p || c == 10) && are_shown cs) ≡ true
    go true next h = next h
    go false next h = absurd (let no : false ≡ true = h in cc)

pub seen : {text : List ℕ} → ArePrintable text → AreShown text
seen {text} h = record { all = from-printable-by text h.all }

from-line-by : (text : List ℕ) → is_line text ≡ true → are_shown text ≡ true
from-line-by [] h = refl
from-line-by (c ∷ cs) h = go (is_printable c) (c == 10) (from-line-by cs) h
  where
    empty : (ds : List ℕ) → (length ds == 0) ≡ true → are_shown ds ≡ true
    empty [] h = refl
    empty (d ∷ ds) h = absurd (let none : length (d ∷ ds) ≡ 0 = eqb-true (length (d ∷ ds)) 0 h in let no : ⊥ = omega (arith, none) in no)

    go : (p n : Bool) → (is_line cs ≡ true → are_shown cs ≡ true) → cond p (is_line cs) (n && (length cs == 0)) ≡ true → ((p || n) && are_shown cs) ≡ true
    go true n next h = next h
    go false true next h = empty cs h
    go false false next h = h

pub from-line : {text : List ℕ} → is_line text ≡ true → AreShown text
from-line {text} h = record { all = from-line-by text h }

-- ---- in each form

-- the same of what is shown in a form
pub record AreShownIn (form : Form) (text : List ℕ) : Type 0 where
  pub all : are_shown_in form text ≡ true

pub add-in : {form : Form} {a b : List ℕ} → AreShownIn form a → AreShownIn form b → AreShownIn form (a ++ b)
add-in {form} {a} {b} h k = record { all = list_all-append (is_shown_in form) a b ∙ ap (λ t. t && are_shown_in form b) h.all ∙ k.all }

pub as-text : {text : List ℕ} → AreShown text → AreShownIn Text text
as-text {text} h = record { all = h.all }

pub as-json : {text : List ℕ} → AreShown text → AreShownIn Json text
as-json {text} h = record { all = h.all }

pub nothing-shown : (form : Form) → AreShownIn form []
nothing-shown Text = record { all = refl }
nothing-shown Json = record { all = refl }
nothing-shown (Line kind) = record { all = refl }

row-shown-by : (text : List ℕ) → list_all is_in_row text ≡ true → list_all is_shown_or_tab text ≡ true
row-shown-by [] h = refl
row-shown-by (c ∷ cs) h = go (is_printable c) (c == 10) (c == 9) (row-shown-by cs) h
  where
    go : (p n t : Bool) → (list_all is_in_row cs ≡ true → list_all is_shown_or_tab cs ≡ true) → ((p || t) && list_all is_in_row cs) ≡ true
        → (((p || n) || t) && list_all is_shown_or_tab cs) ≡ true
    go true n t next h = next h
    go false true true next h = next h
    go false true false next h = absurd (let no : false ≡ true = h in cc)
    go false false true next h = next h
    go false false false next h = absurd (let no : false ≡ true = h in cc)

pub as-row : {kind : FileKind} {text : List ℕ} (files : FileKind) → IsRow kind text → AreShownIn (Line files) text
as-row {kind} {text} files row = record {
  all = subst (λ t. list_all is_shown_or_tab t ≡ true) (sym row.parts)
      (list_all-append is_shown_or_tab row.cells (codes "\n") ∙ ap (λ t. t && true) (row-shown-by row.cells row.shown));
}
