-- What is answered by an audit, whatever it searches for.
use Rattle.ssh_trust.proofs.Imports.{◌≡◌, ◌∙◌, ◌+◌, ◌<◌, ◌≤◌, ◌↔◌, ℕ, List, length, nat_lt, Result, Ok, Err, sym, subst, refl, inl, inr, arith, cases_Bool, le-ltb, lt-ltb, ltb-false, ltb-true, IfOk, file_limit, AuditError, FileTooLong, Memory, Decision, GivesOrMemory, OfClaim, RefusesAs, if_short}

pub err-inj : {A : Type 0} (e f : AuditError) → ◌≡◌ {A = Result A AuditError} (Err e) (Err f) → e ≡ f
err-inj e f h = cc

-- ---- an offer is refused, or it has a claim

pub of-claim : {Q : Type 0} (r : Result Q AuditError) (P : Q → Type 0) → ((claim : Q) → r ≡ Ok claim → P claim) → OfClaim r P
of-claim (Ok claim) P h = h claim refl
of-claim (Err e) P h = tt

-- where a matcher was made, the offer is not refused
pub made-refused : {Q A B : Type 0} (r : Result Q AuditError) (matcher : A) (result : Result B AuditError) → RefusesAs r (Ok matcher) → RefusesAs r result
made-refused (Ok claim) matcher result h = tt
made-refused (Err e) matcher result h = cc

-- a query has one claim
pub claims-same : {Q : Type 0} (r : Result Q AuditError) (a b : Q) → r ≡ Ok a → r ≡ Ok b → a ≡ b
claims-same {Q} r a b h k = let both : ◌≡◌ {A = Result Q AuditError} (Ok a) (Ok b) = sym h ∙ k in cc

-- what each decision implies holds of the result too, for the claim of the matcher
pub decided-too : {Q : Type 0} (matcher claim : Q) (result : Result Decision AuditError) (P R : Q → Decision → Type 0) → ((d : Decision) → P claim d → R claim d)
    → matcher ≡ claim → IfOk result (P matcher) → IfOk result (R claim)
decided-too matcher claim (Err e) P R f is h = tt
decided-too matcher claim (Ok d) P R f is h = f d (subst (λ q. P q d) is h)

-- ---- the answer

-- a whole file that was not taken
pub fed-gives : {A : Type 0} (file : List ℕ) (d : Decision) (e : AuditError)
    → (◌≡◌ {A = Result A AuditError} (Err e) (Err FileTooLong) ↔ file_limit < 0 + length file)
    → (0 + length file ≤ file_limit → ◌≡◌ {A = Result A AuditError} (Err e) (Err Memory)) → GivesOrMemory (if_short file d) (Err e)
fed-gives file d e too_long else_memory =
    elim (cases_Bool (nat_lt file_limit (length file))) [
      | inl t ↦
          let more = ltb-true file_limit (length file) t in
          let long = err-inj _ _ (too_long.1 (omega (arith, more))) in
          rw (long, lt-ltb file_limit (length file) more) refl
      | inr f ↦
          let few = ltb-false file_limit (length file) f in
          let memory = err-inj _ _ (else_memory (omega (arith, few))) in
          rw memory tt
    ]

-- a decision on a file within the limit
pub decided-gives : (file : List ℕ) (d x : Decision) → length file ≤ file_limit → x ≡ d → GivesOrMemory (if_short file d) (Ok x)
decided-gives file d x short e = rw (le-ltb file_limit (length file) short, e) refl
