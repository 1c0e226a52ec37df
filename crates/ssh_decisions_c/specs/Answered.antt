-- What the answer to a caller in C means (this project's rule).
use Rattle.std.specs.Prelude.{◌≡◌, ℕ, List, length, map, Some, Result, Err, IfOk, IsErr}
use Rattle.ssh_entries.specs.AuthEntry.{AuthEntry}
use Rattle.ssh_entries.specs.KnownEntry.{KnownEntry}
use Rattle.ssh_lending.specs.Lending.{filled}
use Rattle.ssh_offers.specs.declared.claim.AuditError.{AuditError}
use Rattle.ssh_offers.specs.declared.claim.Signed.{Signed}
use Rattle.ssh_offers.specs.FirstRefusal.{IsHostClaim, IsLoginClaim}
use Rattle.ssh_offers.specs.HostClaim.{HostClaim, host_claim}
use Rattle.ssh_offers.specs.LoginClaim.{LoginClaim, login_claim}
use Rattle.ssh_offers.specs.Query.{HostCheck, Login}
use Rattle.ssh_rights.specs.Rights.{AreRights}
use Rattle.ssh_rights.specs.declared.rights.Rights.{Rights}
use Rattle.ssh_rules.specs.declared.reason.Reason.{Reason}
use Rattle.ssh_trust.specs.Answer.{GivesOrMemory, OfClaim, host_answer, login_answer}
use Rattle.ssh_trust.specs.HostDecision.{HostMeans, IsHostCandidate}
use Rattle.ssh_trust.specs.LoginDecision.{IsCandidate, IsGrant, LoginMeans}
use Rattle.ssh_trust.specs.Telling.{AreReasons, HostReason, HostTells, IsPassedOver, LoginReason, LoginTells}
use Rattle.ssh_trust.specs.declared.decision.Cause.{Cause}
use Rattle.ssh_trust.specs.declared.decision.Decision.{Decision}
use Rattle.ssh_decisions_c.specs.declared.decided.CarriedText.{CarriedText}
use Rattle.ssh_decisions_c.specs.declared.decided.Decided.{Decided}
use Rattle.ssh_decisions_c.specs.declared.decided.LineReason.{LineReason}
use Rattle.ssh_decisions_c.specs.declared.decided.LoginDecided.{LoginDecided}
use Rattle.ssh_decisions_c.specs.Decided.{carried_in, carried_row, cause_code, cause_number, reason_row, reasons_in, rights_in, rights_reported, texts_in, reported_of}

-- ---- the answer

-- This is the answer where the offer is not refused, or the fault of memory; and a refused offer is a fault. A decision means and
-- tells what it has to.
pub record IsAnswer (C : Type 0) (claim : Result C AuditError) (IsClaim : C → Type 0) (answers : C → Result Decision AuditError) (Means Tells : C → Decision → Type 0) (answer : Result Decision AuditError) : Type 0 where
  pub given : OfClaim claim (λ c. GivesOrMemory (answers c) answer)
  pub refused : (e : AuditError) → claim ≡ Err e → IsErr answer
  pub means : (c : C) → IsClaim c → IfOk answer (Means c)
  pub tells : (c : C) → IsClaim c → IfOk answer (Tells c)

-- an answer to a login by this file, with these signatures vouched for
abbrev pub AnswersLogin : List ℕ → Login → List Signed → Result Decision AuditError → Type 0
AnswersLogin file asked vouched answer =
    IsAnswer LoginClaim (login_claim asked) (IsLoginClaim asked) (λ c. login_answer file c vouched) (λ c. LoginMeans file c vouched)
    (λ c. LoginTells file c vouched) answer

-- an answer on a host's key
abbrev pub AnswersHost : List ℕ → HostCheck → List Signed → Result Decision AuditError → Type 0
AnswersHost file asked vouched answer =
    IsAnswer HostClaim (host_claim asked) (IsHostClaim asked) (λ c. host_answer file c vouched) (λ c. HostMeans file c vouched)
    (λ c. HostTells file c vouched) answer

-- ---- how it is reported

-- the reasons of an answer are in the buffer that was lent for them, if they fit
abbrev pub LendsReasons : Result Decision AuditError → List LineReason → List LineReason → Type 0
LendsReasons answer old new = new ≡ filled (map reason_row (reasons_in answer)) old

-- the answer to a login in numbers, and in three buffers, each if it is long enough
pub record TellsLogin (answer : Result Decision AuditError) (d : LoginDecided) (reasons_old reasons_new : List LineReason) (carried_old carried_new : List CarriedText) (texts_old texts_new : List ℕ) : Type 0 where
  pub decision : d.decision ≡ reported_of answer
  pub rights : d.rights ≡ rights_reported (rights_in answer)
  pub reasons : LendsReasons answer reasons_old reasons_new
  pub carried : carried_new ≡ filled (map carried_row (carried_in (rights_in answer))) carried_old
  pub texts : texts_new ≡ filled (texts_in (rights_in answer)) texts_old

-- ---- what that means

-- A login is granted by the line of this number, and these are its rights.
pub record TellsGrant (file : List ℕ) (claim : LoginClaim) (vouched : List Signed) (d : LoginDecided) (carried_old carried_new : List CarriedText) (texts_old texts_new : List ℕ) : Type 0 where
  pub entry : AuthEntry
  pub grant : IsGrant file claim vouched d.decision.number entry
  pub given : Rights
  pub rights : AreRights entry claim.offer given
  pub reported : d.rights ≡ rights_reported (Some given)
  pub carried : carried_new ≡ filled (map carried_row given.carried) carried_old
  pub texts : texts_new ≡ filled (texts_in (Some given)) texts_old

-- There is no line to grant by, for this cause.
pub record TellsDenial (E : Type 0) (IsGranted : ℕ → E → Type 0) (IsCause : Cause → Type 0) (d : Decided) : Type 0 where
  pub none : (line : ℕ) (e : E) → IsGranted line e → ⊥
  pub why : Cause
  pub cause : IsCause why
  pub code : d.code ≡ cause_code why
  pub number : d.number ≡ cause_number why

-- These lines were passed over, for these reasons.
pub record TellsReasons (AreThese : List (ℕ × Reason) → Type 0) (d : Decided) (old new : List LineReason) : Type 0 where
  pub reasons : List (ℕ × Reason)
  pub these : AreThese reasons
  pub count : d.reasons_length ≡ length reasons
  pub rows : new ≡ filled (map reason_row reasons) old

abbrev pub AreLoginReasons : List ℕ → LoginClaim → List (ℕ × Reason) → Type 0
AreLoginReasons file claim reasons = AreReasons (IsPassedOver AuthEntry (IsCandidate file claim) (LoginReason claim) file) reasons

abbrev pub AreHostReasons : List ℕ → HostClaim → List (ℕ × Reason) → Type 0
AreHostReasons file claim reasons = AreReasons (IsPassedOver KnownEntry (IsHostCandidate file claim) (HostReason claim) file) reasons
