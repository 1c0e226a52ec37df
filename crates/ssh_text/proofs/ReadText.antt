-- Cutting a line into its words, blanks and comment.
use Rattle.ssh_text.proofs.Imports.{◌≡◌, ◌≢◌, ℕ, true, false, ◌==◌, ◌⊎◌, inl, inr, List, [], ◌∷◌, ◌++◌, refl, sym, ap, ◌∙◌, append_assoc, cases_Bool, eqb-true, is_blank, skip_blanks, first_word, after_word, without_cr, is_trailing, before_trailing, without_trailing, comment_of, AreBlanks, begins_with_blank, IsComment, SpellsTail}
use Rattle.ssh_text.proofs.TextLemmas.{ends_word, AreTrailing}

pub record Skipped (text : List ℕ) : Type 0 where
  pub gap : List ℕ
  pub blanks : AreBlanks gap
  pub whole : text ≡ gap ++ skip_blanks text

pub skipped : (text : List ℕ) → Skipped text
skipped [] = record { gap = []; blanks = tt; whole = refl }
skipped (c ∷ cs) =
    elim (cases_Bool (is_blank c)) [
      | inl e ↦ let more = skipped cs in
          record { gap = c ∷ more.gap; blanks = (e, more.blanks); whole = rw e (ap (λ s. c ∷ s) more.whole) }
      | inr e ↦ record { gap = []; blanks = tt; whole = rw e refl }
    ]

pub skip_blanks-begins : (text : List ℕ) → begins_with_blank (skip_blanks text) ≡ false
skip_blanks-begins [] = refl
skip_blanks-begins (c ∷ cs) =
    elim (cases_Bool (is_blank c)) [ inl e ↦ rw e (skip_blanks-begins cs) | inr e ↦ rw (e, e) refl ]

pub word-cut : (text : List ℕ) → text ≡ first_word text ++ after_word text
word-cut [] = refl
word-cut (c ∷ cs) = elim (cases_Bool (is_blank c)) [ inl e ↦ rw e refl | inr e ↦ rw e (ap (λ s. c ∷ s) (word-cut cs)) ]

pub after_word-ends : (text : List ℕ) → ends_word (after_word text) ≡ true
after_word-ends [] = refl
after_word-ends (c ∷ cs) = elim (cases_Bool (is_blank c)) [ inl e ↦ rw (e, e) refl | inr e ↦ rw e (after_word-ends cs) ]

-- the CR at the end of a line, or nothing
abbrev pub IsCr : List ℕ → Type 0
IsCr cr = (cr ≡ []) ⊎ (cr ≡ 13 ∷ [])

pub record CrCut (text : List ℕ) : Type 0 where
  pub cr : List ℕ
  pub is : IsCr cr
  pub whole : text ≡ without_cr text ++ cr

pub cr_cut : (text : List ℕ) → CrCut text
cr_cut [] = record { cr = []; is = inl refl; whole = refl }
cr_cut (c ∷ []) =
    elim (cases_Bool (c == 13)) [
      | inl e ↦ record { cr = 13 ∷ []; is = inr refl; whole = rw (e, eqb-true c 13 e) refl }
      | inr e ↦ record { cr = []; is = inl refl; whole = rw e refl }
    ]
cr_cut (c ∷ d ∷ cs) = let more = cr_cut (d ∷ cs) in record { cr = more.cr; is = more.is; whole = ap (λ s. c ∷ s) more.whole }

pub record TrailingCut (text : List ℕ) : Type 0 where
  pub after : List ℕ
  pub trailing : AreTrailing after
  pub whole : text ≡ without_trailing text ++ after

before-cut : (c : ℕ) (cs rest after : List ℕ) → AreTrailing after → cs ≡ rest ++ after → rest ≡ without_trailing cs → TrailingCut (c ∷ cs)
before-cut c cs [] after a e r =
    elim (cases_Bool (is_trailing c)) [
      | inl t ↦ record { after = c ∷ after; trailing = (t, a); whole = rw (← r, t) (ap (λ s. c ∷ s) e) }
      | inr t ↦ record { after = after; trailing = a; whole = rw (← r, t) (ap (λ s. c ∷ s) e) }
    ]
before-cut c cs (d ∷ ds) after a e r = record { after = after; trailing = a; whole = rw (← r) (ap (λ s. c ∷ s) e) }

pub trailing_cut : (text : List ℕ) → TrailingCut text
trailing_cut [] = record { after = []; trailing = tt; whole = refl }
trailing_cut (c ∷ cs) =
    let more = trailing_cut cs in before-cut c cs (without_trailing cs) more.after more.trailing more.whole refl

before-twice : (c : ℕ) (rest : List ℕ) → without_trailing rest ≡ rest → without_trailing (before_trailing c rest) ≡ before_trailing c rest
before-twice c [] h = elim (cases_Bool (is_trailing c)) [ inl t ↦ rw t refl | inr t ↦ rw (t, t) refl ]
before-twice c (d ∷ ds) h = ap (before_trailing c) h

pub without_trailing-twice : (text : List ℕ) → without_trailing (without_trailing text) ≡ without_trailing text
without_trailing-twice [] = refl
without_trailing-twice (c ∷ cs) = before-twice c (without_trailing cs) (without_trailing-twice cs)

before-begins : (c : ℕ) (rest : List ℕ) → is_blank c ≡ false → begins_with_blank (before_trailing c rest) ≡ false
before-begins c [] h = elim (cases_Bool (is_trailing c)) [ inl t ↦ rw t refl | inr t ↦ rw t h ]
before-begins c (d ∷ ds) h = h

without_trailing-begins : (text : List ℕ) → begins_with_blank text ≡ false → begins_with_blank (without_trailing text) ≡ false
without_trailing-begins [] h = refl
without_trailing-begins (c ∷ cs) h = before-begins c (without_trailing cs) h

-- what is read as a comment is one
pub comment_of-is : (text : List ℕ) → IsComment (comment_of text)
comment_of-is text = record {
  front = without_trailing-begins (skip_blanks text) (skip_blanks-begins text);
  end = without_trailing-twice (skip_blanks text);
}

trailing-cr : (after cr : List ℕ) → AreTrailing after → IsCr cr → AreTrailing (after ++ cr)
trailing-cr [] cr a (inl e) = rw e tt
trailing-cr [] cr a (inr e) = rw e (refl, tt)
trailing-cr (c ∷ after) cr a e = (a.0, trailing-cr after cr a.1 e)

no_gap : (c : ℕ) (cs gap rest : List ℕ) → is_blank c ≡ true → c ∷ cs ≡ gap ++ rest → begins_with_blank rest ≡ false → gap ≢ []
no_gap c cs gap rest b e r none =
    let f : begins_with_blank (c ∷ cs) ≡ begins_with_blank rest = ap begins_with_blank (e ∙ ap (λ g. g ++ rest) none) in
    let g : true ≡ false = sym b ∙ f ∙ r in cc

-- what follows the base64 field is a tail with the comment
pub spells-tail : (rest cr : List ℕ) → ends_word rest ≡ true → IsCr cr → SpellsTail (comment_of rest) (rest ++ cr)
spells-tail [] cr e is = inl (refl, is)
spells-tail (c ∷ cs) cr e is =
    let skip = skipped (c ∷ cs) in
    let cut = trailing_cut (skip_blanks (c ∷ cs)) in
    inr (
      skip.gap,
      cut.after ++ cr,
      record { some = no_gap c cs skip.gap (skip_blanks (c ∷ cs)) e skip.whole (skip_blanks-begins (c ∷ cs)); blanks = skip.blanks },
      trailing-cr cut.after cr cut.trailing is,
      ap (λ s. s ++ cr) (skip.whole ∙ ap (λ s. skip.gap ++ s) cut.whole) ∙ simp append_assoc,
    )
