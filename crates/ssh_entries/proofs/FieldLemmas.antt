-- The fields of a line: what stands in them are bytes, and no blanks.
use Rattle.ssh_entries.proofs.Imports.{◌≡◌, ℕ, false, inl, inr, List, [], ◌∷◌, ◌++◌, refl, subst, cases_Bool, is_blank, body_of, first_word, after_word, next_field, skip_blanks, without_cr, HasNoBlank, skipped, cr_cut, word-cut, begins_with, has_no_bytes}
use Rattle.ssh_entries.proofs.ByteLemmas.{AreBytes, AreBytes-front, AreBytes-back}

pub body-bytes : (line : List ℕ) → AreBytes line → AreBytes (body_of line)
body-bytes line bytes =
    let cut = cr_cut line in
    let skip = skipped (without_cr line) in
    let front = AreBytes-front (without_cr line) cut.cr (subst AreBytes cut.whole bytes) in
    AreBytes-back skip.gap (body_of line) (subst AreBytes skip.whole front)

pub word-bytes : (text : List ℕ) → AreBytes text → AreBytes (first_word text)
word-bytes text bytes = AreBytes-front (first_word text) (after_word text) (subst AreBytes (word-cut text) bytes)

pub next-bytes : (text : List ℕ) → AreBytes text → AreBytes (next_field text)
next-bytes text bytes =
    let skip = skipped (after_word text) in
    let after = AreBytes-back (first_word text) (after_word text) (subst AreBytes (word-cut text) bytes) in
    AreBytes-back skip.gap (next_field text) (subst AreBytes skip.whole after)

-- after the blanks no bytes are left where no word is
pub no_field : (text : List ℕ) → has_no_bytes (first_word (skip_blanks text)) ≡ has_no_bytes (skip_blanks text)
no_field [] = refl
no_field (c ∷ cs) = elim (cases_Bool (is_blank c)) [ inl e ↦ rw e (no_field cs) | inr e ↦ rw (e, e) refl ]

pub word-no_blank : (text : List ℕ) → HasNoBlank (first_word text)
word-no_blank [] = tt
word-no_blank (c ∷ cs) = elim (cases_Bool (is_blank c)) [ inl e ↦ rw e tt | inr e ↦ rw (e, e) (refl, word-no_blank cs) ]

-- a text that does not begin with a byte has no first word that does
pub word-begins : (byte : ℕ) (text : List ℕ) → begins_with byte text ≡ false → begins_with byte (first_word text) ≡ false
word-begins byte [] h = refl
word-begins byte (c ∷ cs) h = elim (cases_Bool (is_blank c)) [ inl e ↦ rw e refl | inr e ↦ rw e h ]

pub begins-front : (byte : ℕ) (word rest : List ℕ) → has_no_bytes word ≡ false → begins_with byte (word ++ rest) ≡ begins_with byte word
begins-front byte [] rest e = cc
begins-front byte (c ∷ cs) rest e = refl

pub some-front : (word rest : List ℕ) → has_no_bytes word ≡ false → has_no_bytes (word ++ rest) ≡ false
some-front [] rest e = cc
some-front (c ∷ cs) rest e = refl
