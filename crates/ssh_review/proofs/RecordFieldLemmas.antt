-- The fields of a record are of printable ASCII; in a table each has one tab before it.
use Rattle.ssh_review.proofs.Imports.{◌≡◌, ◌∙◌, ℕ, ◌+◌, ◌==◌, Bool, true, false, ◌&&◌, ◌||◌, cond, List, [], ◌∷◌, ◌++◌, refl, ap, arith, subst, ℤ, Option, Some, None, codes, eqb-true, list_all-append, escaped_text, hex_text, AreBytes, AreBytesIfAny, are_printable, is_printable}
use Rattle.std.specs.List.{list_all}
use Rattle.ssh_review.specs.RecordFields.{cell_text, is_cell_mark, moment_cell, moment_or_null_in, null_in, number_in, number_or_null_in, text_in, text_or_null_in, truth_in}
use Rattle.ssh_review.specs.Tables.{is_in_row, tabs_in}
use Rattle.ssh_review.specs.declared.record_field.FieldForm.{FieldForm}
use Rattle.ssh_review.specs.declared.record_field.FieldForm.TheVariants.{Cell, Member}
use Rattle.ssh_review.proofs.FieldLemmas.{any-moment-printable, null-printable, number-printable, text-printable, truth-printable}
use Rattle.ssh_review.proofs.PrintableLemmas.{ArePrintable, bytes-from_printable, decimal-printable, escaped-printable, hex-printable, join, signed-printable, word}

abbrev pub is_in : FieldForm → ℕ → Bool
is_in Member = is_printable
is_in Cell = is_in_row

abbrev pub tabs_of : FieldForm → ℕ → ℕ
tabs_of Member n = 0
tabs_of Cell n = n

-- A text of fields of this number. As a record, so that a proof finds the text.
pub record AreFields (form : FieldForm) (n : ℕ) (text : List ℕ) : Type 0 where
  pub all : list_all (is_in form) text ≡ true
  pub tabs : tabs_in text ≡ tabs_of form n

-- ---- no tab is printable

no-tab : (c : ℕ) → is_printable c ≡ true → (c == 9) ≡ false
no-tab c h = go (c == 9) refl
  where
    go : (b : Bool) → (c == 9) ≡ b → b ≡ false
    go false e = refl
    go true e = absurd (let no : false ≡ true = subst (λ x. is_printable x ≡ true) (eqb-true c 9 e) h in cc)

untabbed : (text : List ℕ) → are_printable text ≡ true → tabs_in text ≡ 0
untabbed [] h = refl
untabbed (c ∷ cs) h = go (is_printable c) refl (untabbed cs) h
  where
    go : (p : Bool) → is_printable c ≡ p → (are_printable cs ≡ true → tabs_in cs ≡ 0) → (p && are_printable cs) ≡ true → tabs_in (c ∷ cs) ≡ 0
    go true e next h = rw (no-tab c e) (next h)
    go false e next h = absurd (let no : false ≡ true = h in cc)

in-row : (text : List ℕ) → are_printable text ≡ true → list_all is_in_row text ≡ true
in-row [] h = refl
in-row (c ∷ cs) h = go (is_printable c) (in-row cs) h
  where
    go : (p : Bool) → (are_printable cs ≡ true → list_all is_in_row cs ≡ true) → (p && are_printable cs) ≡ true → ((p || c == 9) && list_all is_in_row cs) ≡ true
    go true next h = next h
    go false next h = absurd (let no : false ≡ true = h in cc)

-- ---- one after the other

one-more : (x y z : ℕ) → z ≡ x + y → 1 + z ≡ (1 + x) + y
one-more x y z e = omega (arith, e)

none-more : (n : ℕ) → n ≡ 0 + n
none-more n = omega arith

tabs-append : (a b : List ℕ) → tabs_in (a ++ b) ≡ tabs_in a + tabs_in b
tabs-append [] b = none-more (tabs_in b)
tabs-append (c ∷ a) b = go (c == 9) (tabs-append a b)
  where
    go : (t : Bool) → tabs_in (a ++ b) ≡ tabs_in a + tabs_in b → cond t (1 + tabs_in (a ++ b)) (tabs_in (a ++ b)) ≡ cond t (1 + tabs_in a) (tabs_in a) + tabs_in b
    go true more = one-more (tabs_in a) (tabs_in b) (tabs_in (a ++ b)) more
    go false more = more

both-tabs : (form : FieldForm) (m n x y : ℕ) → x ≡ tabs_of form m → y ≡ tabs_of form n → x + y ≡ tabs_of form (m + n)
both-tabs Member m n x y h k = omega (arith, h, k)
both-tabs Cell m n x y h k = omega (arith, h, k)

pub also : {form : FieldForm} {m n : ℕ} {a b : List ℕ} → AreFields form m a → AreFields form n b → AreFields form (m + n) (a ++ b)
also {form} {m} {n} {a} {b} h k = record {
  all = list_all-append (is_in form) a b ∙ ap (λ t. t && list_all (is_in form) b) h.all ∙ k.all;
  tabs = tabs-append a b ∙ both-tabs form m n (tabs_in a) (tabs_in b) h.tabs k.tabs;
}

-- ---- texts without a tab, and cells

pub member : {text : List ℕ} (n : ℕ) → ArePrintable text → AreFields Member n text
member {text} n h = record { all = h.all; tabs = untabbed text h.all }

pub from-member : {n : ℕ} {text : List ℕ} → AreFields Member n text → ArePrintable text
from-member {n} {text} h = word text h.all

-- what is printed without a tab is no field
pub printed : {text : List ℕ} (form : FieldForm) → ArePrintable text → AreFields form 0 text
printed {text} Member h = member 0 h
printed {text} Cell h = record { all = in-row text h.all; tabs = untabbed text h.all }

pub cell : {text : List ℕ} → ArePrintable text → AreFields Cell 1 (codes "\t" ++ text)
cell {text} h = record { all = in-row text h.all; tabs = ap (λ n. 1 + n) (untabbed text h.all) }

pub empty-cell : AreFields Cell 1 (codes "\t")
empty-cell = record { all = refl; tabs = refl }

pub cell-printable : (text : List ℕ) → AreBytes text → ArePrintable (cell_text text)
cell-printable [] h = word [] refl
cell-printable (c ∷ cs) h = go (is_cell_mark c)
  where
    go : (b : Bool) → ArePrintable (cond b (codes "\\x" ++ hex_text (c ∷ []) ++ escaped_text cs) (escaped_text (c ∷ cs)))
    go true = join (join (word (codes "\\x") refl) (hex-printable (c ∷ []) (h.0, tt))) (escaped-printable cs h.1)
    go false = escaped-printable (c ∷ cs) h

-- ---- fields

pub no-value : (form : FieldForm) (name : List ℕ) → are_printable name ≡ true → AreFields form 1 (null_in form name)
no-value Member name h = member 1 (null-printable name h)
no-value Cell name h = empty-cell

pub text-field : (form : FieldForm) (name text : List ℕ) → are_printable name ≡ true → AreBytes text → AreFields form 1 (text_in form name text)
text-field Member name text h k = member 1 (text-printable name text h k)
text-field Cell name text h k = cell (cell-printable text k)

-- the same of a text that is printable
pub said-field : {text : List ℕ} (form : FieldForm) (name : List ℕ) → are_printable name ≡ true → ArePrintable text → AreFields form 1 (text_in form name text)
said-field {text} form name h k = text-field form name text h (bytes-from_printable k)

pub any-text-field : (form : FieldForm) (name : List ℕ) (text : Option (List ℕ)) → are_printable name ≡ true → AreBytesIfAny text → AreFields form 1 (text_or_null_in form name text)
any-text-field form name None h k = no-value form name h
any-text-field form name (Some text) h k = text-field form name text h k

pub number-field : (form : FieldForm) (name : List ℕ) (n : ℕ) → are_printable name ≡ true → AreFields form 1 (number_in form name n)
number-field Member name n h = member 1 (number-printable name n h)
number-field Cell name n h = cell (decimal-printable n)

pub any-number-field : (form : FieldForm) (name : List ℕ) (n : Option ℕ) → are_printable name ≡ true → AreFields form 1 (number_or_null_in form name n)
any-number-field form name None h = no-value form name h
any-number-field form name (Some n) h = number-field form name n h

pub truth-field : (form : FieldForm) (name : List ℕ) (b : Bool) → are_printable name ≡ true → AreFields form 1 (truth_in form name b)
truth-field Member name b h = member 1 (truth-printable name b h)
truth-field Cell name true h = cell (word (codes "true") refl)
truth-field Cell name false h = cell (word (codes "false") refl)

moment-cell : (moment : Option ℤ) → AreFields Cell 1 (moment_cell moment)
moment-cell None = empty-cell
moment-cell (Some moment) = cell (signed-printable moment)

pub any-moment-field : (form : FieldForm) (name : List ℕ) (moment : Option ℤ) → are_printable name ≡ true → AreFields form 1 (moment_or_null_in form name moment)
any-moment-field Member name moment h = member 1 (any-moment-printable name moment h)
any-moment-field Cell name moment h = moment-cell moment
