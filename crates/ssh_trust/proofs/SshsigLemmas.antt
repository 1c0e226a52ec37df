-- The answer to a file signature has the meaning that is stated for its case.
use Rattle.ssh_trust.proofs.Imports.{◌≡◌, ◌∙◌, ℕ, true, false, List, Option, Some, None, Result, Ok, Err, refl, subst, sym, inl, inr, ◌≢◌, bytes_eq, cases_Bool, bytes_eq-Decides, Sshsig, IsSshsigBlob, AuditError, Signed, AlgorithmServes, sshsig_evidence, first_unvouched, none_unvouched, all_vouched, OfClaim, SshsigAnswer, OtherNamespace, IsOfBody, SshsigMeans, vouching_answer}
use Rattle.ssh_trust.specs.SshsigAnswer.{sshsig_answer}

means-by : (body message namespace : List ℕ) (vouched : List Signed) (v : Sshsig) → IsOfBody body v → v.namespace ≡ namespace
    → (u : Option ℕ) → first_unvouched vouched (sshsig_evidence v message) ≡ u
    → SshsigMeans body message namespace vouched (vouching_answer (sshsig_evidence v message) u)
means-by body message namespace vouched v own named None none =
    (v, own, named, (none_unvouched vouched (sshsig_evidence v message) none).0, refl)
means-by body message namespace vouched v own named (Some k) some =
    (v, own, named, (λ has. let bad : None ≡ Some k = sym (all_vouched vouched (sshsig_evidence v message) (has, tt)) ∙ some in cc), refl)

different : (a b : List ℕ) → bytes_eq a b ≡ false → a ≡ b → ⊥
different a b h same = let bad : true ≡ false = sym ((bytes_eq-Decides a b).1 same) ∙ h in cc

sig_means : (body message namespace : List ℕ) (vouched : List Signed) (v : Sshsig) → IsOfBody body v
    → SshsigMeans body message namespace vouched (sshsig_answer v message namespace vouched)
unfolding sshsig_answer
sig_means body message namespace vouched v own =
    elim (cases_Bool (bytes_eq v.namespace namespace)) [
      | inl e ↦ rw e (means-by body message namespace vouched v own ((bytes_eq-Decides v.namespace namespace).0 e) _ refl)
      | inr e ↦ rw e (v, own, different v.namespace namespace e)
    ]

-- the answer to the file signature of a body has the meaning that is stated for its case
pub answered_means : (body message namespace : List ℕ) (vouched : List Signed) (v : Sshsig) (a : SshsigAnswer) → IsSshsigBlob v body → AlgorithmServes v
    → a ≡ sshsig_answer v message namespace vouched → SshsigMeans body message namespace vouched a
answered_means body message namespace vouched v a spelled serves h =
    subst (λ (x : SshsigAnswer). SshsigMeans body message namespace vouched x) (sym h)
    (sig_means body message namespace vouched v (record { spelled = spelled; serves = serves }))

-- ---- another namespace

same-ok : {E F : Type 0} (a b : SshsigAnswer) → ◌≡◌ {A = Result SshsigAnswer E} (Ok a) (Ok b) → ◌≡◌ {A = Result SshsigAnswer F} (Ok a) (Ok b)
same-ok a b h = cc

-- it is what is answered, where an answer was had
pub other_reported : {E : Type 0} (r : Result Sshsig AuditError) (v : Sshsig) (namespace : List ℕ) (a : SshsigAnswer) → r ≡ Ok v
    → (v.namespace ≢ namespace → ◌≡◌ {A = Result SshsigAnswer E} (Ok a) (Ok OtherNamespace))
    → OfClaim r (λ x. x.namespace ≢ namespace → ◌≡◌ {A = Result SshsigAnswer AuditError} (Ok a) (Ok OtherNamespace))
other_reported r v namespace a e h = rw e (λ other. same-ok a OtherNamespace (h other))

no-ok : {E F : Type 0} (x : E) (a b : SshsigAnswer) (res : Result SshsigAnswer F) → ◌≡◌ {A = Result SshsigAnswer E} (Err x) (Ok a) → res ≡ Ok b
no-ok x a b res h = cc

-- and where none was had, it is not another one
pub none_reported : {E : Type 0} (r : Result Sshsig AuditError) (v : Sshsig) (namespace : List ℕ) (x : E) (res : Result SshsigAnswer AuditError) → r ≡ Ok v
    → (v.namespace ≢ namespace → ◌≡◌ {A = Result SshsigAnswer E} (Err x) (Ok OtherNamespace))
    → OfClaim r (λ y. y.namespace ≢ namespace → res ≡ Ok OtherNamespace)
none_reported r v namespace x res e h = rw e (λ other. no-ok x OtherNamespace OtherNamespace res (h other))
