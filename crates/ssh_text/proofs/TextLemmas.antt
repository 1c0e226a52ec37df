-- Words, blanks, tails and comments.
use Rattle.ssh_text.proofs.Imports.{◌≡◌, ◌≢◌, ℕ, Bool, true, false, ◌==◌, inl, inr, List, [], ◌∷◌, ◌++◌, bytes_eq, refl, ap, ◌∙◌, append_assoc, AllByRecursion, cases_Bool, eqb-true, is_blank, skip_blanks, first_word, after_word, without_cr, is_trailing, before_trailing, without_trailing, comment_of, AreBlanks, HasNoBlank, begins_with_blank, IsComment, SpellsTail}

-- nothing, or a blank first
abbrev pub ends_word : List ℕ → Bool
ends_word [] = true
ends_word (c ∷ cs) = is_blank c

pub skip_blanks-after : (gap rest : List ℕ) → AreBlanks gap → skip_blanks (gap ++ rest) ≡ skip_blanks rest
skip_blanks-after [] rest h = refl
skip_blanks-after (c ∷ gap) rest h = rw h.0 (skip_blanks-after gap rest h.1)

pub skip_blanks-at_word : (text : List ℕ) → begins_with_blank text ≡ false → skip_blanks text ≡ text
skip_blanks-at_word [] h = refl
skip_blanks-at_word (c ∷ cs) h = rw h refl

pub first_word-at : (word rest : List ℕ) → HasNoBlank word → ends_word rest ≡ true → first_word (word ++ rest) ≡ word
first_word-at [] [] h e = refl
first_word-at [] (c ∷ cs) h e = rw e refl
first_word-at (c ∷ word) rest h e = rw h.0 (ap (λ s. c ∷ s) (first_word-at word rest h.1 e))

pub after_word-at : (word rest : List ℕ) → HasNoBlank word → ends_word rest ≡ true → after_word (word ++ rest) ≡ rest
after_word-at [] [] h e = refl
after_word-at [] (c ∷ cs) h e = rw e refl
after_word-at (c ∷ word) rest h e = rw h.0 (after_word-at word rest h.1 e)

-- a CR at the end of a rest that is not empty is one of the rest
pub without_cr-after : (front : List ℕ) (x : ℕ) (xs : List ℕ) → without_cr (front ++ x ∷ xs) ≡ front ++ without_cr (x ∷ xs)
without_cr-after [] x xs = refl
without_cr-after (c ∷ []) x xs = refl
without_cr-after (c ∷ d ∷ front) x xs = ap (λ s. c ∷ s) (without_cr-after (d ∷ front) x xs)

abbrev pub AreTrailing : List ℕ → Type 0
AreTrailing text = AllByRecursion (λ c. is_trailing c ≡ true) text

pub without_trailing-all : (text : List ℕ) → AreTrailing text → without_trailing text ≡ []
without_trailing-all [] h = refl
without_trailing-all (c ∷ cs) h = rw (without_trailing-all cs h.1, h.0) refl

pub without_trailing-after : (text after : List ℕ) → AreTrailing after → without_trailing (text ++ after) ≡ without_trailing text
without_trailing-after [] after h = without_trailing-all after h
without_trailing-after (c ∷ cs) after h = ap (before_trailing c) (without_trailing-after cs after h)

AreTrailing-skip : (text : List ℕ) → AreTrailing text → AreTrailing (skip_blanks text)
AreTrailing-skip [] h = tt
AreTrailing-skip (c ∷ cs) h =
    elim (cases_Bool (is_blank c)) [
      | inl e ↦ rw e (AreTrailing-skip cs h.1)
      | inr e ↦ rw e h
    ]

-- blanks, a comment, and what may follow it
pub comment_of-at : (gap comment after : List ℕ) → AreBlanks gap → IsComment comment → AreTrailing after
    → comment_of (gap ++ comment ++ after) ≡ comment
comment_of-at gap [] after g c a =
    ap comment_of (append_assoc gap [] after) ∙ ap without_trailing (skip_blanks-after gap after g) ∙ without_trailing-all (skip_blanks after) (AreTrailing-skip after a)
comment_of-at gap (x ∷ xs) after g c a =
    ap comment_of (append_assoc gap (x ∷ xs) after)
    ∙ ap without_trailing (skip_blanks-after gap ((x ∷ xs) ++ after) g ∙ skip_blanks-at_word ((x ∷ xs) ++ after) c.front)
    ∙ without_trailing-after (x ∷ xs) after a ∙ c.end

-- one CR at the end counts for nothing after a comment
pub without_trailing-cr : (text : List ℕ) → without_trailing (without_cr text) ≡ without_trailing text
without_trailing-cr [] = refl
without_trailing-cr (c ∷ []) =
    elim (cases_Bool (c == 13)) [
      | inl e ↦ rw (e, eqb-true c 13 e) refl
      | inr e ↦ rw (e, e) refl
    ]
without_trailing-cr (c ∷ d ∷ cs) = ap (before_trailing c) (without_trailing-cr (d ∷ cs))

pub skip_blanks-cr : (text : List ℕ) → skip_blanks (without_cr text) ≡ without_cr (skip_blanks text)
skip_blanks-cr [] = refl
skip_blanks-cr (c ∷ []) =
    elim (cases_Bool (c == 13)) [
      | inl e ↦ rw (e, eqb-true c 13 e) refl
      | inr e ↦ elim (cases_Bool (is_blank c)) [ inl b ↦ rw (e, b) refl | inr b ↦ rw (e, b, e) refl ]
    ]
skip_blanks-cr (c ∷ d ∷ cs) =
    elim (cases_Bool (is_blank c)) [
      | inl b ↦ rw b (skip_blanks-cr (d ∷ cs))
      | inr b ↦ rw b refl
    ]

pub comment_of-cr : (text : List ℕ) → comment_of (without_cr text) ≡ comment_of text
comment_of-cr text = rw (skip_blanks-cr text) (without_trailing-cr (skip_blanks text))

-- the comment of a tail
pub comment_of-tail : (comment tail : List ℕ) → IsComment comment → SpellsTail comment tail → comment_of tail ≡ comment
comment_of-tail comment tail c (inl (none, inl e)) = rw (e, none) refl
comment_of-tail comment tail c (inl (none, inr e)) = rw (e, none) refl
comment_of-tail comment tail c (inr (gap, after, g, a, e)) = ap comment_of e ∙ comment_of-at gap comment after g.blanks c a

-- one or more blanks, by a test
pub gap-test : (gap : List ℕ) → gap ≢ [] → bytes_eq gap [] ≡ false
gap-test [] some = absurd (some refl)
gap-test (c ∷ cs) some = refl

pub gap-differs : (gap : List ℕ) → bytes_eq gap [] ≡ false → gap ≢ []
gap-differs [] h e = cc
gap-differs (c ∷ cs) h e = cc
