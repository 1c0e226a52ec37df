-- For a decision, the evidence that was found in a vouch file is as good as all that the file lists.
use Rattle.ssh_program.proofs.Imports.{◌≡◌, ◌∙◌, ◌≤◌, ℕ, Bool, true, false, List, [], ◌∷◌, length, take, drop, Option, Some, None, Result, Ok, Err, refl, ap, subst, arith, inl, inr, IfOk, min, IfTells, SourceState, bytes_at, AreFound, TellsOf, Found, AuditError, Memory, Signed, is_vouched, any-has, has-any, decision_response, GivesOrMemory, OfClaim, RefusesAs, if_short, Deciding, answer_over, or_vouch_fault, AuditsFile, AuditsVouched, RestsOn, VouchAlike, first_resting, kept_by, evidence_found, second_resting, wanted_in}
use Rattle.ssh_files.specs.VouchFile.{vouched_of}
use Rattle.ssh_print.specs.Responses.{Response as Shown}
use Rattle.ssh_program.proofs.ChosenLemmas.{reported}

-- ---- what is looked for

pub wanted_given : (rests : Result (List Signed) AuditError) (evidence : List Signed) → RefusesAs rests (Ok evidence) → OfClaim rests (λ e. GivesOrMemory (Ok e) (Ok evidence))
    → evidence ≡ wanted_in rests
wanted_given (Ok e) evidence refused gives = cc
wanted_given (Err x) evidence refused gives = cc

not-given : (e : List Signed) (x : AuditError) → (x ≡ Memory → ⊥) → GivesOrMemory (Ok e) (Err x) → ⊥
not-given e x other gives =
    elim (reported (Ok e) (Err x) gives) [
      | inl memory ↦ other cc
      | inr same ↦ cc
    ]

pub wanted_none : (rests : Result (List Signed) AuditError) (x : AuditError) → (x ≡ Memory → ⊥) → OfClaim rests (λ e. GivesOrMemory (Ok e) (Err x)) → [] ≡ wanted_in rests
wanted_none (Ok e) x other gives = absurd (not-given e x other gives)
wanted_none (Err y) x other gives = refl

-- ---- what is found

pub first_cut : (evidence : List Signed) → take (min (length evidence) 1) evidence ≡ take 1 evidence
first_cut [] = refl
first_cut (s ∷ evidence) = let one : min (length (s ∷ evidence)) 1 ≡ 1 = omega arith in rw one refl

pub second_cut : (evidence : List Signed) → drop (min (length evidence) 1) evidence ≡ drop 1 evidence
second_cut [] = refl
second_cut (s ∷ evidence) = let one : min (length (s ∷ evidence)) 1 ≡ 1 = omega arith in rw one refl

first-vouched : (x : Signed) (more : List Signed) → is_vouched (x ∷ more) x ≡ true
first-vouched x more = has-any (x ∷ more) x (inl refl)

second-vouched : (x y : Signed) → is_vouched (x ∷ y ∷ []) y ≡ true
second-vouched x y = has-any (x ∷ y ∷ []) y (inr (inl refl))

-- what is not vouched for is not equal to what is
other-by : (x y : Signed) (vouched : List Signed) (b : Bool) → is_vouched (x ∷ []) y ≡ b → true ≡ is_vouched vouched x → false ≡ is_vouched vouched y → is_vouched (x ∷ []) y ≡ is_vouched vouched y
other-by x y vouched false e one none = e ∙ none
other-by x y vouched true e one none =
    elim (any-has (x ∷ []) y e) [
      | inl same ↦ let both : true ≡ is_vouched vouched y = one ∙ ap (is_vouched vouched) same in cc
      | inr none ↦ absurd none
    ]

other : (x y : Signed) (vouched : List Signed) → true ≡ is_vouched vouched x → false ≡ is_vouched vouched y → is_vouched (x ∷ []) y ≡ is_vouched vouched y
other x y vouched one none = other-by x y vouched (is_vouched (x ∷ []) y) refl one none

one-alike : (x : Signed) (vouched : List Signed) (b c : Bool) → b ≡ is_vouched vouched x → c ≡ false → VouchAlike (kept_by b c (x ∷ [])) vouched (x ∷ [])
one-alike x vouched b true one none = cc
one-alike x vouched true false one none = (first-vouched x [] ∙ one, tt)
one-alike x vouched false false one none = (one, tt)

two-alike : (x y : Signed) (vouched : List Signed) (b c : Bool) → b ≡ is_vouched vouched x → c ≡ is_vouched vouched y
    → VouchAlike (kept_by b c (x ∷ y ∷ [])) vouched (x ∷ y ∷ [])
two-alike x y vouched true true one two = (first-vouched x (y ∷ []) ∙ one, (second-vouched x y ∙ two, tt))
two-alike x y vouched true false one two = (first-vouched x [] ∙ one, (other x y vouched one two, tt))
two-alike x y vouched false true one two = (other y x vouched two one, (first-vouched y [] ∙ two, tt))
two-alike x y vouched false false one two = (one, (two, tt))

kept-alike : (evidence vouched : List Signed) (found : Found) → length evidence ≤ 2 → AreFound (first_resting evidence) (second_resting evidence) vouched found
    → VouchAlike (evidence_found evidence found) vouched evidence
kept-alike [] vouched found few are = tt
kept-alike (x ∷ []) vouched found few are = one-alike x vouched found.first found.second are.0 are.1
kept-alike (x ∷ y ∷ []) vouched found few are = two-alike x y vouched found.first found.second are.0 are.1
kept-alike (x ∷ y ∷ z ∷ more) vouched found few are = absurd (omega (arith, few))

-- ---- what is answered

answer-same : (by : Deciding) (rests : Result (List Signed) AuditError) (vouched : List Signed) (found : Found) (file : Option (List ℕ)) → RestsOn by rests
    → AreFound (first_resting (wanted_in rests)) (second_resting (wanted_in rests)) vouched found → answer_over by (evidence_found (wanted_in rests) found) file ≡ answer_over by vouched file
answer-same (Err e) rests vouched found None rest are = refl
answer-same (Err e) rests vouched found (Some file) rest are = refl
answer-same (Ok decision) (Err e) vouched found file rest are = absurd rest
answer-same (Ok decision) (Ok evidence) vouched found None rest are = refl
answer-same (Ok decision) (Ok evidence) vouched found (Some file) rest are =
    ap (if_short file) (rest.1 file (evidence_found evidence found) vouched (kept-alike evidence vouched found rest.0 are))

audits-all : (by : Deciding) (name : List ℕ) (a b : List Signed) (s : SourceState) (u : Option SourceState) (r : Shown) → answer_over by a (bytes_at s name) ≡ answer_over by b (bytes_at s name)
    → AuditsFile by name a s u r → AuditsFile by name b s u r
audits-all by name a b s u r same (inl h) = inl (h.0, h.1 ∙ ap decision_response same)
audits-all by name a b s u r same (inr h) = inr h

audits-reported : (by : Deciding) (rests : Result (List Signed) AuditError) (found : Found) (name file : List ℕ) (s : SourceState) (u : Option SourceState) (r : Shown) → RestsOn by rests
    → TellsOf (first_resting (wanted_in rests)) (second_resting (wanted_in rests)) file (Ok found)
    → AuditsFile by name (evidence_found (wanted_in rests) found) s u r → AuditsVouched by name (or_vouch_fault (vouched_of file)) s u r
audits-reported by rests found name file s u r rest (vouched, read, are) h =
    rw read
    (audits-all by name (evidence_found (wanted_in rests) found) vouched s u r (answer-same by rests vouched found (bytes_at s name) rest are) h)

-- the response by what was found is the one by all that is vouched for
pub found_responds : {R E : Type 0} (view : R → Shown) (by : Deciding) (rests : Result (List Signed) AuditError) (evidence kept : List Signed) (found : Found) (name file : List ℕ)
    (o u : Option SourceState) (res : Result R E) → RestsOn by rests → evidence ≡ wanted_in rests → kept ≡ evidence_found evidence found
    → TellsOf (first_resting evidence) (second_resting evidence) file (Ok found)
    → IfTells o (λ s. IfOk res (λ r. AuditsFile by name kept s u (view r)))
    → IfTells o (λ s. IfOk res (λ r. AuditsVouched by name (or_vouch_fault (vouched_of file)) s u (view r)))
found_responds view by rests evidence kept found name file None u res rest is keeps tells h = tt
found_responds view by rests evidence kept found name file (Some s) u (Err e) rest is keeps tells h = λ counts. tt
found_responds view by rests evidence kept found name file (Some s) u (Ok r) rest is keeps tells h = λ counts.
    audits-reported by rests found name file s u (view r) rest (subst (λ e. TellsOf (first_resting e) (second_resting e) file (Ok found)) is tells)
    (subst (λ e. AuditsFile by name (evidence_found e found) s u (view r)) is (subst (λ k. AuditsFile by name k s u (view r)) keeps (h counts)))
