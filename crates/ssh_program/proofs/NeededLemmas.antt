-- Of the vouched signatures a decision depends only on which of its evidence is among them.
use Rattle.ssh_program.proofs.Imports.{◌≡◌, ◌+◌, ◌≤◌, not, cond, ltb, ℕ, List, [], ◌∷◌, length, Option, Some, None, Result, Ok, Err, refl, ap, arith, position_or_len, AuditError, Signed, host_evidence, login_evidence, signer_evidence, HostClaim, LoginClaim, plain, certified, first_unvouched, is_vouched, decision_by, decision_of, cause_by, Candidate, host_decision_by, revocation_cause, host_scan_of, decided_by, evidence_by, RestsOn, VouchAlike}
use Rattle.ssh_offers.specs.Offer.{Offer}
use Rattle.ssh_trust.specs.LoginDecision.{login_decision}
use Rattle.ssh_trust.specs.HostDecision.{host_decision}

len-same : (a b evidence : List Signed) → VouchAlike a b evidence
    → position_or_len (λ s. not (is_vouched a s)) evidence ≡ position_or_len (λ s. not (is_vouched b s)) evidence
len-same a b [] alike = refl
len-same a b (s ∷ evidence) alike = rw alike.0 (ap (λ (n : ℕ). cond (not (not (is_vouched b s))) (1 + n) 0) (len-same a b evidence alike.1))

unvouched-same : (a b evidence : List Signed) → VouchAlike a b evidence → first_unvouched a evidence ≡ first_unvouched b evidence
unvouched-same a b evidence alike = ap (λ (n : ℕ). cond (ltb n (length evidence)) (Some n) None) (len-same a b evidence alike)

-- ---- logins

decision-same : (a b evidence : List Signed) (candidate : Option Candidate) (reasons : _) → first_unvouched a evidence ≡ first_unvouched b evidence
    → decision_of evidence a candidate reasons ≡ decision_of evidence b candidate reasons
decision-same a b evidence None reasons same = refl
decision-same a b evidence (Some c) reasons same = ap (λ (u : Option ℕ). decision_by evidence c (cause_by c.touched c.verified u) reasons) same

login-same : (file : List ℕ) (claim : LoginClaim) (a b : List Signed) → VouchAlike a b (login_evidence claim) → login_decision file claim a ≡ login_decision file claim b
unfolding login_decision
login-same file claim a b alike = decision-same a b (login_evidence claim) _ _ (unvouched-same a b (login_evidence claim) alike)

few : (offer : Offer) → length (signer_evidence offer) ≤ 1
few (plain key) = omega arith
few (certified c) = omega arith

pub login_rests_on : (claimed : Result LoginClaim AuditError) → RestsOn (decided_by login_decision claimed) (evidence_by login_evidence claimed)
login_rests_on (Err e) = tt
login_rests_on (Ok claim) = (let one = few claim.offer in omega (arith, one), λ file a b alike. login-same file claim a b alike)

-- ---- hosts' keys

host-same : (file : List ℕ) (claim : HostClaim) (a b : List Signed) → VouchAlike a b (host_evidence claim) → host_decision file claim a ≡ host_decision file claim b
unfolding host_decision
host-same file claim a b alike =
    let scan = host_scan_of claim file in
    ap (λ (u : Option ℕ). host_decision_by (revocation_cause scan.revoked scan.unreadable_revocation) scan.admission.candidate u scan.admission.reasons (host_evidence claim))
    (unvouched-same a b (host_evidence claim) alike)

pub host_rests_on : (claimed : Result HostClaim AuditError) → RestsOn (decided_by host_decision claimed) (evidence_by host_evidence claimed)
host_rests_on (Err e) = tt
host_rests_on (Ok claim) = (let one = few claim.offer in omega (arith, one), λ file a b alike. host-same file claim a b alike)
