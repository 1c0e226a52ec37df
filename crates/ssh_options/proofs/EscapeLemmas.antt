-- Values with an escaped quote, and without.
use Rattle.ssh_options.proofs.Imports.{◌≡◌, ℕ, length, true, false, ◌&&◌, ◌==◌, List, [], ◌∷◌, refl, ap, inl, inr, list_all, is_ascii_digit, cases_Bool, or_parts, or_cases, or_right, or_left, and_parts, and_right, eqb-true, without_last, begins_with_quote, unescaped, has_escape, has_quote, without_z, is_civil_text}
use Rattle.ssh_options.specs.Expiry.{is_expiry_text}

-- where no quote is escaped, the bytes between the quotes are the value
pub plain_unescaped : (text : List ℕ) → has_escape text ≡ false → unescaped text ≡ text
plain_unescaped [] h = refl
plain_unescaped (c ∷ cs) h =
    let parts = or_parts ((c == 92) && begins_with_quote cs) (has_escape cs) h in
    rw parts.0 (ap (λ s. c ∷ s) (plain_unescaped cs parts.1))

quote-begins : (cs : List ℕ) → begins_with_quote cs ≡ true → has_quote cs ≡ true
quote-begins [] h = h
quote-begins (c ∷ cs) h = or_left (c == 34) (has_quote cs) h

-- the byte after a backslash stays where it is a quote
quote-stays : (cs : List ℕ) → begins_with_quote cs ≡ true → has_quote (unescaped cs) ≡ true
quote-stays [] h = h
quote-stays (c ∷ cs) h =
    let e : c ≡ 34 = eqb-true c 34 h in
    rw e refl

quote-some : (cs : List ℕ) → begins_with_quote cs ≡ true → length (unescaped cs) ≡ 0 → ⊥
quote-some [] h z = cc
quote-some (c ∷ cs) h z =
    let e : c ≡ 34 = eqb-true c 34 h in
    let none : length (unescaped (34 ∷ cs)) ≡ 0 = rw e at z in
    cc

-- an empty value has no bytes between its quotes
pub unescaped_none : (text : List ℕ) → length (unescaped text) ≡ 0 → length text ≡ 0
unescaped_none [] h = refl
unescaped_none (c ∷ cs) h =
    elim (cases_Bool ((c == 92) && begins_with_quote cs)) [
      | inl e ↦ absurd (quote-some cs ((and_parts (c == 92) (begins_with_quote cs) e).1) (rw e at h))
      | inr e ↦ let some : length (c ∷ unescaped cs) ≡ 0 = rw e at h in cc
    ]

pub escape_has_quote : (text : List ℕ) → has_escape text ≡ true → has_quote (unescaped text) ≡ true
escape_has_quote [] h = h
escape_has_quote (c ∷ cs) h =
    elim (cases_Bool ((c == 92) && begins_with_quote cs)) [
      | inl e ↦ rw e (quote-stays cs ((and_parts (c == 92) (begins_with_quote cs) e).1))
      | inr e ↦ rw e (or_right (c == 34) (has_quote (unescaped cs)) (escape_has_quote cs (rw e at h)))
    ]

-- the byte dropped at the end is not a quote
quote-kept : (text : List ℕ) → has_quote text ≡ true → has_quote (without_last 90 text) ≡ true
quote-kept [] h = h
quote-kept (c ∷ []) h =
    elim (or_cases (c == 34) false h) [
      | inl e ↦ let q : c ≡ 34 = eqb-true c 34 e in rw q refl
      | inr e ↦ cc
    ]
quote-kept (c ∷ d ∷ cs) h =
    elim (or_cases (c == 34) (has_quote (d ∷ cs)) h) [
      | inl e ↦ or_left (c == 34) (has_quote (without_last 90 (d ∷ cs))) e
      | inr e ↦ or_right (c == 34) (has_quote (without_last 90 (d ∷ cs))) (quote-kept (d ∷ cs) e)
    ]

quote-no_digits : (text : List ℕ) → has_quote text ≡ true → list_all is_ascii_digit text ≡ false
quote-no_digits [] h = cc
quote-no_digits (c ∷ cs) h =
    elim (or_cases (c == 34) (has_quote cs) h) [
      | inl e ↦ let q : c ≡ 34 = eqb-true c 34 e in rw q refl
      | inr e ↦ and_right (is_ascii_digit c) (list_all is_ascii_digit cs) (quote-no_digits cs e)
    ]

no_form : (digits : List ℕ) → list_all is_ascii_digit digits ≡ false → is_civil_text digits ≡ false
no_form digits h = rw (and_right _ (list_all is_ascii_digit digits) h) refl

-- a value with an escaped quote is not an expiry time
pub escape_no_expiry : (text : List ℕ) → has_escape text ≡ true → is_expiry_text (unescaped text) ≡ false
unfolding is_expiry_text
escape_no_expiry text h = no_form (without_z (unescaped text)) (quote-no_digits (without_z (unescaped text)) (quote-kept (unescaped text) (escape_has_quote text h)))
