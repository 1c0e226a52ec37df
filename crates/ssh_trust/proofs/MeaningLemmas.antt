-- A decision has the meaning that is stated for granted and denied logins.
use Rattle.ssh_trust.proofs.Imports.{◌≡◌, ◌∙◌, ℕ, Bool, true, false, List, Option, Some, None, ap, subst, sym, refl, option_map, AuthEntry, AuthLine, Unreadable, SpellsEntry, auth_line-spelled, auth_line-spells, Mismatch, Admits, Reason, Signed, LoginClaim, login_evidence, first_unvouched, Address, Offer, OfCertificate, certified, plain, rights_of, touch_suffices, verification_suffices, OptionsOnce, are-rights, touch-is, verification-is, AdmitsLogin, CriticalMet, login_mismatch, login_verdict, verdict_by, Decision, Granted, Denied, candidate_of, reasons_of, IsCandidate, IsGrant, LoginMeans, cause_by, candidate_at, decision_by, decision_of, line_verdict, verdicts, admits_where_none, none_where_admits, none_unvouched, all_vouched}
use Rattle.ssh_entries.specs.declared.auth_line.AuthLine.TheVariants.{Blank, Comment, Entry}
use Rattle.ssh_entries.specs.AuthGrammar.{auth_line}
use Rattle.ssh_trust.specs.LoginDecision.{login_decision}
use Rattle.ssh_trust.proofs.CandidateLemmas.{AreBytes, Judges, admits-by, candidate-is, no-candidate, one-candidate}

-- ---- a line that admits

admits-line : (claim : LoginClaim) (l : AuthLine) (e : AuthEntry) → login_verdict claim l ≡ Admits e → (l ≡ Entry e) × AdmitsLogin e claim
admits-line claim Blank e h = cc
admits-line claim Comment e h = cc
admits-line claim (Unreadable why) e h = cc
admits-line claim (Entry f) e h =
    let both = admits-by (login_mismatch f claim) f e h in
    (ap Entry both.1, subst (λ (x : AuthEntry). AdmitsLogin x claim) both.1 (admits_where_none f claim both.0))

pub login-judges : (claim : LoginClaim) → Judges AuthEntry SpellsEntry (λ e. AdmitsLogin e claim) (line_verdict claim)
login-judges claim = record {
  found = λ line e bytes h. let is = admits-line claim (auth_line line) e h in (auth_line-spells line e bytes is.0, is.1);
  only = λ line e spelled admits. ap (login_verdict claim) (auth_line-spelled e line spelled) ∙ ap (λ (o : Option Mismatch). verdict_by o e) (none_where_admits e claim admits);
}

-- ---- the decision

not-both : (b : Bool) → b ≡ true → b ≡ false → ⊥
not-both b t f = let bad : true ≡ false = sym t ∙ f in cc

abbrev pub touched_by : LoginClaim → AuthEntry → Bool
touched_by claim e = touch_suffices e.options claim.offer claim.signature

abbrev pub verified_by : LoginClaim → AuthEntry → Bool
verified_by claim e = verification_suffices e.options claim.offer claim.signature

-- a granted login by the functions, and the meaning of a denied one
abbrev pub LoginReading : List ℕ → LoginClaim → List Signed → Decision → Type 0
LoginReading file claim vouched (Granted line rights reasons evidence) =
    (e : AuthEntry) × IsGrant file claim vouched line e × (rights ≡ Some (rights_of e claim.offer)) × (evidence ≡ login_evidence claim)
LoginReading file claim vouched (Denied why reasons evidence) =
    ((i : ℕ) (e : AuthEntry) → IsGrant file claim vouched i e → ⊥) × (evidence ≡ login_evidence claim)

means-at : (file : List ℕ) (claim : LoginClaim) (vouched : List Signed) (i : ℕ) (e : AuthEntry) (reasons : List (ℕ × Reason)) → IsCandidate file claim i e
    → (touched : Bool) → touched_by claim e ≡ touched → (verified : Bool) → verified_by claim e ≡ verified
    → (unvouched : Option ℕ) → first_unvouched vouched (login_evidence claim) ≡ unvouched
    → LoginReading file claim vouched (decision_by (login_evidence claim) (candidate_at claim (i, e)) (cause_by touched verified unvouched) reasons)
means-at file claim vouched i e reasons c false t verified v unvouched u = (
  λ j f grant.
      let same = one-candidate (line_verdict claim) (login-judges claim) file i j e f c grant.candidate in
      not-both (touched_by claim e) (ap (touched_by claim) same ∙ (touch-is f.options claim.offer claim.signature).1 grant.touched) t,
  refl,
)
means-at file claim vouched i e reasons c true t false v unvouched u = (
  λ j f grant.
      let same = one-candidate (line_verdict claim) (login-judges claim) file i j e f c grant.candidate in
      not-both (verified_by claim e) (ap (verified_by claim) same ∙ (verification-is f.options claim.offer claim.signature).1 grant.verified) v,
  refl,
)
means-at file claim vouched i e reasons c true t true v (Some k) u = (
  λ j f grant.
      let bad : None ≡ Some k = sym (all_vouched vouched (login_evidence claim) grant.all_vouched) ∙ u in
      cc,
  refl,
)
means-at file claim vouched i e reasons c true t true v None u = (
  e,
  record {
    candidate = c;
    touched = (touch-is e.options claim.offer claim.signature).0 t;
    verified = (verification-is e.options claim.offer claim.signature).0 v;
    all_vouched = none_unvouched vouched (login_evidence claim) u;
  },
  refl,
  refl,
)

means-by : (file : List ℕ) (claim : LoginClaim) (vouched : List Signed) (reasons : List (ℕ × Reason)) → AreBytes file
    → (c : Option (ℕ × AuthEntry)) → candidate_of (verdicts claim file) ≡ c → LoginReading file claim vouched (decision_of (login_evidence claim) vouched (option_map (candidate_at claim) c) reasons)
means-by file claim vouched reasons bytes None none = (λ i e grant. no-candidate (line_verdict claim) (login-judges claim) file none i e grant.candidate, refl)
means-by file claim vouched reasons bytes (Some c) some = means-at file claim vouched c.0 c.1 reasons (candidate-is (line_verdict claim) (login-judges claim) file c.0 c.1 bytes some) _ refl _ refl _ refl

pub login_reading : (file : List ℕ) (claim : LoginClaim) (vouched : List Signed) → AreBytes file → LoginReading file claim vouched (login_decision file claim vouched)
unfolding login_decision
login_reading file claim vouched bytes = means-by file claim vouched (reasons_of (verdicts claim file)) bytes _ refl

once-of : (e : AuthEntry) (address : Address) (offer : Offer) → OfCertificate (CriticalMet e address) offer → OptionsOnce offer
once-of e address (plain key) met = tt
once-of e address (certified c) met = met.once

means-of : (file : List ℕ) (claim : LoginClaim) (vouched : List Signed) (d : Decision) → LoginReading file claim vouched d → LoginMeans file claim vouched d
means-of file claim vouched (Granted line rights reasons evidence) (e, grant, given, evidence_is) =
    (e, grant, (rights_of e claim.offer, given, are-rights e claim.offer (once-of e claim.address claim.offer grant.candidate.admits.critical)), evidence_is)
means-of file claim vouched (Denied why reasons evidence) h = h

-- a decision has the meaning that is stated for its case
pub login_means : (file : List ℕ) (claim : LoginClaim) (vouched : List Signed) → AreBytes file → LoginMeans file claim vouched (login_decision file claim vouched)
login_means file claim vouched bytes = means-of file claim vouched (login_decision file claim vouched) (login_reading file claim vouched bytes)
