-- What is reported of an answer, by its kind.
use Rattle.std.proofs.Common.{◌≡◌, ◌∙◌, ◌⊎◌, ℕ, List, [], Option, None, Result, Ok, Err, ap, inl, inr, map, subst, sym}
use Rattle.ssh_offers.specs.declared.claim.AuditError.{AuditError}
use Rattle.ssh_offers.specs.declared.claim.AuditError.TheVariants.{Memory}
use Rattle.ssh_offers.specs.declared.claim.Signed.{Signed}
use Rattle.ssh_rights.specs.declared.rights.Rights.{Rights}
use Rattle.ssh_rules.specs.declared.reason.Reason.{Reason}
use Rattle.ssh_trust.specs.declared.decision.Cause.{Cause}
use Rattle.ssh_trust.specs.declared.decision.Decision.{Decision}
use Rattle.ssh_trust.specs.declared.decision.Decision.TheVariants.{Granted, Denied}
use Rattle.ssh_decisions_c.specs.Decided.{reason_row, reported_of}
use Rattle.ssh_decisions_c.specs.Reported.{IsRightsTelling, IsTelling}
use Rattle.ssh_decisions_c.specs.declared.telling.Telling.{Telling}

pub grant_telling : (decision : Decision) (line : ℕ) (rights : Option Rights) (reasons listed : List (ℕ × Reason)) (evidence : List Signed) (t : Telling)
    → decision ≡ Granted line rights reasons evidence → listed ≡ reasons
    → ((evidence : List Signed) → t.decision ≡ reported_of (Ok (Granted line rights listed evidence)))
    → t.reasons.items ≡ map reason_row listed → IsRightsTelling rights t.rights → IsTelling (Ok decision) t
grant_telling decision line rights reasons listed evidence t is same reported rows given =
    let named : decision ≡ Granted line rights listed evidence = is ∙ ap (λ (l : List (ℕ × Reason)). Granted line rights l evidence) (sym same) in
    subst (λ (d : Decision). IsTelling (Ok d) t) (sym named) (record { decision = reported evidence; reasons = rows; rights = given })

pub denial_telling : (decision : Decision) (why : Cause) (reasons listed : List (ℕ × Reason)) (evidence : List Signed) (t : Telling)
    → decision ≡ Denied why reasons evidence → listed ≡ reasons
    → ((evidence : List Signed) → t.decision ≡ reported_of (Ok (Denied why listed evidence)))
    → t.reasons.items ≡ map reason_row listed → IsRightsTelling None t.rights → IsTelling (Ok decision) t
denial_telling decision why reasons listed evidence t is same reported rows none =
    let named : decision ≡ Denied why listed evidence = is ∙ ap (λ (l : List (ℕ × Reason)). Denied why l evidence) (sym same) in
    subst (λ (d : Decision). IsTelling (Ok d) t) (sym named) (record { decision = reported evidence; reasons = rows; rights = none })

pub fault_telling : (answer : Result Decision AuditError) (error : AuditError) (t : Telling)
    → answer ≡ Err error → t.decision ≡ reported_of (Err error) → t.reasons.items ≡ [] → IsRightsTelling None t.rights → IsTelling answer t
fault_telling answer error t is reported rows none =
    subst (λ (r : Result Decision AuditError). IsTelling r t) (sym is) (record { decision = reported; reasons = rows; rights = none })

-- the same answer, or the fault of memory
pub same_or_memory : (answer reported : Result Decision AuditError) (decision : Decision)
    → answer ≡ Ok decision → (reported ≡ Ok decision) ⊎ (reported ≡ Err Memory) → (reported ≡ answer) ⊎ (reported ≡ Err Memory)
same_or_memory answer reported decision is (inl same) = inl (same ∙ sym is)
same_or_memory answer reported decision is (inr memory) = inr memory
