-- The decision on a login: what it means, and as a function.
use Rattle.std.specs.Prelude.{◌≡◌, ℕ, Bool, true, false, List, map, Option, Some, None}
use Rattle.ssh_entries.specs.AuthEntry.{AuthEntry}
use Rattle.ssh_text.specs.Text.{lines_of}
use Rattle.ssh_entries.specs.AuthGrammar.{SpellsEntry, auth_line}
use Rattle.ssh_rules.specs.declared.admission.LineVerdict.{LineVerdict}
use Rattle.ssh_rules.specs.Verdict.{login_verdict}
use Rattle.ssh_trust.specs.declared.login_scan.Candidate.{Candidate}
use Rattle.ssh_trust.specs.Candidate.{IsFirstAdmitted}
use Rattle.ssh_trust.specs.declared.search.Scan.{Scan}
use Rattle.ssh_trust.specs.Scan.{scan_line, scan_of}
use Rattle.ssh_trust.specs.declared.decision.Cause.{Cause}
use Rattle.ssh_trust.specs.declared.decision.Cause.TheVariants.{NoLine, TouchMissing, VerifyMissing, NotVouched}
use Rattle.ssh_trust.specs.declared.decision.Decision.{Decision}
use Rattle.ssh_trust.specs.declared.decision.Decision.TheVariants.{Granted, Denied}
use Rattle.ssh_rules.specs.declared.reason.Reason.{Reason}
use Rattle.ssh_offers.specs.declared.claim.Signed.{Signed}
use Rattle.ssh_offers.specs.LoginClaim.{LoginClaim}
use Rattle.ssh_rules.specs.Admission.{AdmitsLogin}
use Rattle.ssh_offers.specs.Evidence.{login_evidence}
use Rattle.ssh_rights.specs.declared.rights.Rights.{Rights}
use Rattle.ssh_rights.specs.Rights.{AreRights, rights_of}
use Rattle.ssh_rights.specs.SecurityKeys.{TouchSuffices, VerificationSuffices, touch_suffices, verification_suffices}
use Rattle.ssh_offers.specs.Vouching.{AllVouched, first_unvouched}

-- ======== as a relation

-- the least line that spells an entry that admits the login
abbrev pub IsCandidate : List ℕ → LoginClaim → ℕ → AuthEntry → Type 0
IsCandidate file claim i e = IsFirstAdmitted AuthEntry SpellsEntry (λ f. AdmitsLogin f claim) file i e

-- the conditions of a grant
pub record IsGrant (file : List ℕ) (claim : LoginClaim) (vouched : List Signed) (i : ℕ) (e : AuthEntry) : Type 0 where
  pub candidate : IsCandidate file claim i e
  -- A security key was touched, and verified the user, where the line or the certificate requires it.
  pub touched : TouchSuffices e.options claim.offer claim.signature
  pub verified : VerificationSuffices e.options claim.offer claim.signature
  pub all_vouched : AllVouched vouched (login_evidence claim)

-- Granted names the candidate, with its rights and the evidence. Denied means that no line satisfies the conditions of
-- a grant.
abbrev pub LoginMeans : List ℕ → LoginClaim → List Signed → Decision → Type 0
LoginMeans file claim vouched (Granted line rights reasons evidence) =
    (e : AuthEntry) × IsGrant file claim vouched line e
    × ((given : Rights) × (rights ≡ Some given) × AreRights e claim.offer given) × (evidence ≡ login_evidence claim)
LoginMeans file claim vouched (Denied why reasons evidence) =
    ((i : ℕ) (e : AuthEntry) → IsGrant file claim vouched i e → ⊥) × (evidence ≡ login_evidence claim)

-- ======== as a function

-- ---- the verdict of each line

abbrev pub line_verdict : LoginClaim → List ℕ → LineVerdict AuthEntry
line_verdict claim line = login_verdict claim (auth_line line)

abbrev pub verdicts : LoginClaim → List ℕ → List (LineVerdict AuthEntry)
verdicts claim file = map (line_verdict claim) (lines_of file)

-- ---- the decision

-- what a line that admits gives
abbrev pub candidate_at : LoginClaim → ℕ × AuthEntry → Candidate
candidate_at claim c = record {
  line = c.0;
  touched = touch_suffices (c.1).options claim.offer claim.signature;
  verified = verification_suffices (c.1).options claim.offer claim.signature;
  rights = rights_of c.1 claim.offer;
}

-- the state after one more line
abbrev pub login_scan_line : LoginClaim → Scan Candidate → ℕ × List ℕ → Scan Candidate
login_scan_line claim s x = scan_line (candidate_at claim) (line_verdict claim) s x

abbrev pub vouching_cause : Option ℕ → Option Cause
vouching_cause None = None
vouching_cause (Some index) = Some (NotVouched index)

-- why a login by a line that admits it is denied: the first cause that holds
abbrev pub cause_by : Bool → Bool → Option ℕ → Option Cause
cause_by false verified unvouched = Some TouchMissing
cause_by true false unvouched = Some VerifyMissing
cause_by true true unvouched = vouching_cause unvouched

abbrev pub decision_by : List Signed → Candidate → Option Cause → List (ℕ × Reason) → Decision
decision_by evidence c None reasons = Granted c.line (Some c.rights) reasons evidence
decision_by evidence c (Some why) reasons = Denied why reasons evidence

abbrev pub decision_at : List Signed → List Signed → Candidate → List (ℕ × Reason) → Decision
decision_at evidence vouched c reasons = decision_by evidence c (cause_by c.touched c.verified (first_unvouched vouched evidence)) reasons

abbrev pub decision_of : List Signed → List Signed → Option Candidate → List (ℕ × Reason) → Decision
decision_of evidence vouched None reasons = Denied NoLine reasons evidence
decision_of evidence vouched (Some c) reasons = decision_at evidence vouched c reasons

unfoldable pub login_decision : List ℕ → LoginClaim → List Signed → Decision
login_decision file claim vouched =
    let scan = scan_of (candidate_at claim) (verdicts claim file) in
    decision_of (login_evidence claim) vouched scan.candidate scan.reasons
