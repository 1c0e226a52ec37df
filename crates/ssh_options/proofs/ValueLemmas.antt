-- A value and its text between quotes.
use Rattle.ssh_options.proofs.Imports.{◌≡◌, ℕ, Bool, true, false, ◌&&◌, ◌==◌, if◌then◌else◌, inl, inr, List, [], ◌∷◌, ◌++◌, Some, refl, sym, ap, subst, cases_Bool, eqb-true, escaped, unescaped, ends_with_backslash, begins_with_quote, closed_by_quote}

begins-escaped : (v : List ℕ) → begins_with_quote (escaped v) ≡ false
begins-escaped [] = refl
begins-escaped (c ∷ cs) =
    elim (cases_Bool (c == 34)) [
      | inl e ↦ rw e refl
      | inr e ↦ rw (e, e) refl
    ]

-- the bytes between the quotes give the value
pub unescaped-escaped : (v : List ℕ) → unescaped (escaped v) ≡ v
unescaped-escaped [] = refl
unescaped-escaped (c ∷ cs) =
    elim (cases_Bool (c == 34)) [
      | inl e ↦ rw (e, unescaped-escaped cs) (ap (λ x. x ∷ cs) (sym (eqb-true c 34 e)))
      | inr e ↦ rw e (no_escape c cs (c == 92) (unescaped-escaped cs))
    ]
  where
    no_escape : (c : ℕ) (cs : List ℕ) (b : Bool) → unescaped (escaped cs) ≡ cs
        → (if b && begins_with_quote (escaped cs) then unescaped (escaped cs) else c ∷ unescaped (escaped cs)) ≡ c ∷ cs
    no_escape c cs true ih = rw (begins-escaped cs) (ap (λ s. c ∷ s) ih)
    no_escape c cs false ih = ap (λ s. c ∷ s) ih

closed-at_quote : (last : ℕ) (cs : List ℕ) → closed_by_quote 34 (escaped cs ++ 34 ∷ []) ≡ Some (escaped cs)
    → closed_by_quote last (92 ∷ 34 ∷ escaped cs ++ 34 ∷ []) ≡ Some (92 ∷ 34 ∷ escaped cs)
closed-at_quote last cs h = rw h refl

-- a value that does not end with a backslash is closed by the quote after it
pub closed-escaped : (last : ℕ) (v : List ℕ) → ends_with_backslash (last ∷ v) ≡ false
    → closed_by_quote last (escaped v ++ 34 ∷ []) ≡ Some (escaped v)
closed-escaped last [] h = rw h refl
closed-escaped last (c ∷ cs) h =
    elim (cases_Bool (c == 34)) [
      | inl e ↦
          let P : ℕ → Type 0 = λ x. ends_with_backslash (x ∷ cs) ≡ false in
          rw e (closed-at_quote last cs (closed-escaped 34 cs (subst P (eqb-true c 34 e) h)))
      | inr e ↦ rw (e, e, closed-escaped c cs h) refl
    ]
