-- All evidence is vouched for exactly where no index lacks it.
use Rattle.ssh_offers.proofs.Imports.{◌≡◌, ◌∙◌, ◌+◌, ◌&&◌, ◌||◌, ◌≤◌, not, cond, ℕ, suc, Bool, true, false, List, [], ◌∷◌, length, Some, None, ap, refl, arith, inl, inr, position_or_len, bytes_eq, cases_Bool, ltb-false, le-ltb, bytes_eq-Decides, Signed, Has, AllVouched, is_same, is_vouched, first_unvouched}

signed : List ℕ → List ℕ → List ℕ → Signed
signed k m s = record { key = k; message = m; signature = s }

both : (a b : Bool) → (a && b) ≡ true → (a ≡ true) × (b ≡ true)
both true true h = (refl, refl)
both true false h = cc
both false b h = cc

same-all : (a b : Signed) → is_same a b ≡ true → a ≡ b
unfolding signed
same-all a b h =
    let first = both _ _ h in
    let rest = both _ _ first.1 in
    let key : a.key ≡ b.key = (bytes_eq-Decides a.key b.key).0 first.0 in
    let message : a.message ≡ b.message = (bytes_eq-Decides a.message b.message).0 rest.0 in
    let signature : a.signature ≡ b.signature = (bytes_eq-Decides a.signature b.signature).0 rest.1 in
    ap (λ k. signed k a.message a.signature) key ∙ (ap (λ m. signed b.key m a.signature) message ∙ ap (λ s. signed b.key b.message s) signature)

same-self : (a b : Signed) → a ≡ b → is_same a b ≡ true
same-self a b h =
    let key : bytes_eq a.key b.key ≡ true = (bytes_eq-Decides a.key b.key).1 (ap (λ (s : Signed). s.key) h) in
    let message : bytes_eq a.message b.message ≡ true = (bytes_eq-Decides a.message b.message).1 (ap (λ (s : Signed). s.message) h) in
    let signature : bytes_eq a.signature b.signature ≡ true = (bytes_eq-Decides a.signature b.signature).1 (ap (λ (s : Signed). s.signature) h) in
    rw (key, message, signature) refl

pub any-has : (vouched : List Signed) (s : Signed) → is_vouched vouched s ≡ true → Has vouched s
any-has [] s h = cc
any-has (v ∷ vouched) s h =
    elim (cases_Bool (is_same v s)) [
      | inl e ↦ inl (same-all v s e)
      | inr e ↦ inr (any-has vouched s (rw e at h))
    ]

or-true : (b : Bool) → (b || true) ≡ true
or-true true = refl
or-true false = refl

pub has-any : (vouched : List Signed) (s : Signed) → Has vouched s → is_vouched vouched s ≡ true
has-any [] s h = absurd h
has-any (v ∷ vouched) s (inl e) = rw (same-self v s e) refl
has-any (v ∷ vouched) s (inr h) = rw (has-any vouched s h) (or-true (is_same v s))

-- how many pieces of evidence from the front are vouched for
vouched_len : List Signed → List Signed → ℕ
vouched_len vouched evidence = position_or_len (λ s. not (is_vouched vouched s)) evidence

len-all : (vouched evidence : List Signed) → length evidence ≤ vouched_len vouched evidence → AllVouched vouched evidence
unfolding vouched_len
len-all vouched [] h = tt
len-all vouched (s ∷ evidence) h =
    elim (cases_Bool (is_vouched vouched s)) [
      | inl e ↦ (any-has vouched s e, len-all vouched evidence (let k : suc (length evidence) ≤ 1 + vouched_len vouched evidence = rw e at h in omega arith))
      | inr e ↦ let k : suc (length evidence) ≤ 0 = rw e at h in absurd (omega arith)
    ]

all-len : (vouched evidence : List Signed) → AllVouched vouched evidence → length evidence ≤ vouched_len vouched evidence
unfolding vouched_len
all-len vouched [] h = omega arith
all-len vouched (s ∷ evidence) h =
    let here : is_vouched vouched s ≡ true = has-any vouched s h.0 in
    let rest = all-len vouched evidence h.1 in
    rw here (omega arith)

position-none : (b : Bool) (n : ℕ) → cond b (Some n) None ≡ None → b ≡ false
position-none true n h = cc
position-none false n h = refl

pub none_unvouched : (vouched evidence : List Signed) → first_unvouched vouched evidence ≡ None → AllVouched vouched evidence
unfolding vouched_len
none_unvouched vouched evidence h =
    len-all vouched evidence (ltb-false (vouched_len vouched evidence) (length evidence) (position-none _ _ h))

pub all_vouched : (vouched evidence : List Signed) → AllVouched vouched evidence → first_unvouched vouched evidence ≡ None
unfolding vouched_len
all_vouched vouched evidence h = rw (le-ltb (vouched_len vouched evidence) (length evidence) (all-len vouched evidence h)) refl
