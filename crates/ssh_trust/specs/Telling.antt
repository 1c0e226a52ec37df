-- What the reasons of passed-over lines and the cause of a denial mean, as relations (this project's rules).
use Rattle.std.specs.Prelude.{◌≡◌, ◌↔◌, ◌⊎◌, ◌≤◌, ◌<◌, ◌+◌, ℕ, List, [], ◌∷◌, Contains, Option, Some, slice_get, take}
use Rattle.ssh_entries.specs.AuthEntry.{AuthEntry}
use Rattle.ssh_entries.specs.declared.auth_line.AuthLine.TheVariants as auth
use Rattle.ssh_entries.specs.KnownEntry.{KnownEntry}
use Rattle.ssh_entries.specs.declared.known_line.KnownLine.TheVariants as known
use Rattle.ssh_entries.specs.AuthGrammar.{SpellsEntry, auth_line}
use Rattle.ssh_entries.specs.KnownGrammar.{SpellsKnown, known_line}
use Rattle.ssh_offers.specs.declared.claim.Signed.{Signed}
use Rattle.ssh_offers.specs.Evidence.{host_evidence, login_evidence}
use Rattle.ssh_offers.specs.HostClaim.{HostClaim}
use Rattle.ssh_offers.specs.LoginClaim.{LoginClaim}
use Rattle.ssh_offers.specs.Vouching.{Has}
use Rattle.ssh_options.specs.declared.option_text.LineCause.{LineCause}
use Rattle.ssh_rights.specs.SecurityKeys.{TouchSuffices, VerificationSuffices}
use Rattle.ssh_rules.specs.declared.reason.Mismatch.{Mismatch}
use Rattle.ssh_rules.specs.declared.reason.Mismatch.TheVariants.{Listed}
use Rattle.ssh_rules.specs.declared.reason.Reason.{Reason}
use Rattle.ssh_rules.specs.declared.reason.Reason.TheVariants.{Unreadable}
use Rattle.ssh_rules.specs.Admission.{login_mismatch}
use Rattle.ssh_host_rules.specs.HostAdmission.{host_mismatch}
use Rattle.ssh_trust.specs.declared.decision.Cause.{Cause}
use Rattle.ssh_trust.specs.declared.decision.Cause.TheVariants.{NoLine, NotVouched, Revoked, RevocationUnreadable, TouchMissing, VerifyMissing}
use Rattle.ssh_trust.specs.declared.decision.Decision.{Decision}
use Rattle.ssh_trust.specs.declared.decision.Decision.TheVariants.{Granted, Denied}
use Rattle.ssh_trust.specs.Candidate.{reason_limit}
use Rattle.ssh_trust.specs.LoginDecision.{IsCandidate, LoginMeans}
use Rattle.ssh_trust.specs.FileLines.{StandsAt}
use Rattle.ssh_trust.specs.HostDecision.{UnreadableRevocationAt, HostMeans, IsHostCandidate, IsLeast, RevokesAt}

-- ---- the reasons

-- This is why the line does not admit: it cannot be read, for this cause, or it spells an entry that has this first
-- reason against the offer.
abbrev pub HasReason : {E : Type 0} → (List ℕ → LineCause → Type 0) → (E → List ℕ → Type 0) → (E → Option Mismatch) → List ℕ → Reason → Type 0
HasReason {E = E} IsUnread Spells mismatch line why =
    ((cause : LineCause) × IsUnread line cause × (why ≡ Unreadable cause))
    ⊎ ((e : E) × Spells e line × (mismatch e ≡ Some (Listed why)))

-- line n has this reason, and is before the candidate, where there is one
pub record IsPassedOver (E : Type 0) (IsFirst : ℕ → E → Type 0) (Reasoned : List ℕ → Reason → Type 0) (file : List ℕ) (n : ℕ) (why : Reason) : Type 0 where
  pub line : List ℕ
  pub stands : StandsAt file n line
  pub reasoned : Reasoned line why
  pub before : (i : ℕ) (e : E) → IsFirst i e → n < i

-- the numbers rise, and the first is n or more
abbrev pub RisesFrom : ℕ → List (ℕ × Reason) → Type 0
RisesFrom n [] = Unit {0}
RisesFrom n (r ∷ more) = (n ≤ r.0) × RisesFrom (r.0 + 1) more

-- the reasons of the lines that are passed over, each once, in the order of the file: the first 100 of them
pub record AreReasons (IsPassed : ℕ → Reason → Type 0) (reasons : List (ℕ × Reason)) : Type 0 where
  pub all : List (ℕ × Reason)
  pub rising : RisesFrom 1 all
  pub each : (n : ℕ) (why : Reason) → Contains all (n, why) ↔ IsPassed n why
  pub listed : reasons ≡ take reason_limit all

-- ---- the evidence

-- the signature with this index is not vouched for, and each before it is
pub record IsFirstUnvouched (vouched evidence : List Signed) (index : ℕ) : Type 0 where
  pub signed : Signed
  pub stands : slice_get evidence index ≡ Some signed
  pub unvouched : Has vouched signed → ⊥
  pub earlier : (j : ℕ) (s : Signed) → j < index → slice_get evidence j ≡ Some s → Has vouched s

-- ---- logins

abbrev pub LoginReason : LoginClaim → List ℕ → Reason → Type 0
LoginReason claim line why = HasReason (λ l cause. auth_line l ≡ auth.Unreadable cause) SpellsEntry (λ e. login_mismatch e claim) line why

-- a missing touch comes before a missing verification, and that before a signature that is not vouched for
abbrev pub LoginCause : List ℕ → LoginClaim → List Signed → Cause → Type 0
LoginCause file claim vouched NoLine = (i : ℕ) (e : AuthEntry) → IsCandidate file claim i e → ⊥
LoginCause file claim vouched TouchMissing =
    (i : ℕ) × (e : AuthEntry) × IsCandidate file claim i e × ¬ TouchSuffices e.options claim.offer claim.signature
LoginCause file claim vouched VerifyMissing =
    (i : ℕ) × (e : AuthEntry) × IsCandidate file claim i e × TouchSuffices e.options claim.offer claim.signature
    × ¬ VerificationSuffices e.options claim.offer claim.signature
LoginCause file claim vouched (NotVouched index) =
    (i : ℕ) × (e : AuthEntry) × IsCandidate file claim i e × TouchSuffices e.options claim.offer claim.signature
    × VerificationSuffices e.options claim.offer claim.signature × IsFirstUnvouched vouched (login_evidence claim) index
LoginCause file claim vouched (Revoked n) = ⊥
LoginCause file claim vouched (RevocationUnreadable n) = ⊥

-- the reasons of the lines that were passed over, for both cases, and for a denial its cause too
abbrev pub LoginTells : List ℕ → LoginClaim → List Signed → Decision → Type 0
LoginTells file claim vouched (Granted line rights reasons evidence) =
    AreReasons (IsPassedOver AuthEntry (IsCandidate file claim) (LoginReason claim) file) reasons
LoginTells file claim vouched (Denied why reasons evidence) =
    LoginCause file claim vouched why × AreReasons (IsPassedOver AuthEntry (IsCandidate file claim) (LoginReason claim) file) reasons

-- what a decision on a login means: granted or denied, its reasons, and a denial's cause
abbrev pub LoginDecides : List ℕ → LoginClaim → List Signed → Decision → Type 0
LoginDecides file claim vouched decision = LoginMeans file claim vouched decision × LoginTells file claim vouched decision

-- ---- hosts

abbrev pub HostReason : HostClaim → List ℕ → Reason → Type 0
HostReason claim line why = HasReason (λ l cause. known_line l ≡ known.Unreadable cause) SpellsKnown (λ e. host_mismatch e claim) line why

-- no line of the whole file revokes the key or the signer, or may revoke any key
abbrev pub IsUnrevoked : List ℕ → HostClaim → Type 0
IsUnrevoked file claim = ((n : ℕ) → RevokesAt file claim.offer n → ⊥) × ((n : ℕ) → UnreadableRevocationAt file n → ⊥)

-- a revocation comes first, then a line that may be one
abbrev pub HostCause : List ℕ → HostClaim → List Signed → Cause → Type 0
HostCause file claim vouched (Revoked n) = IsLeast (RevokesAt file claim.offer) n
HostCause file claim vouched (RevocationUnreadable n) = ((k : ℕ) → RevokesAt file claim.offer k → ⊥) × IsLeast (UnreadableRevocationAt file) n
HostCause file claim vouched NoLine = IsUnrevoked file claim × ((i : ℕ) (e : KnownEntry) → IsHostCandidate file claim i e → ⊥)
HostCause file claim vouched (NotVouched index) =
    IsUnrevoked file claim × ((i : ℕ) × (e : KnownEntry) × IsHostCandidate file claim i e × IsFirstUnvouched vouched (host_evidence claim) index)
HostCause file claim vouched TouchMissing = ⊥
HostCause file claim vouched VerifyMissing = ⊥

-- the same for a host's key
abbrev pub HostTells : List ℕ → HostClaim → List Signed → Decision → Type 0
HostTells file claim vouched (Granted line rights reasons evidence) =
    AreReasons (IsPassedOver KnownEntry (IsHostCandidate file claim) (HostReason claim) file) reasons
HostTells file claim vouched (Denied why reasons evidence) =
    HostCause file claim vouched why × AreReasons (IsPassedOver KnownEntry (IsHostCandidate file claim) (HostReason claim) file) reasons

-- what a decision on a host's key means: granted or denied, its reasons, and a denial's cause
abbrev pub HostDecides : List ℕ → HostClaim → List Signed → Decision → Type 0
HostDecides file claim vouched decision = HostMeans file claim vouched decision × HostTells file claim vouched decision
