-- The decision on a host's key: what it means, and as a function.
use Rattle.std.specs.Prelude.{◌≡◌, ℕ, ◌<◌, List, Option, Some, None}
use Rattle.ssh_entries.specs.KnownEntry.{KnownEntry}
use Rattle.ssh_entries.specs.KnownGrammar.{IsUnreadableRevocation, RevokesBytes, SpellsKnown}
use Rattle.ssh_offers.specs.declared.claim.Signed.{Signed}
use Rattle.ssh_offers.specs.Evidence.{host_evidence}
use Rattle.ssh_offers.specs.HostClaim.{HostClaim}
use Rattle.ssh_offers.specs.Offer.{Offer}
use Rattle.ssh_offers.specs.Vouching.{AllVouched, first_unvouched}
use Rattle.ssh_rules.specs.declared.reason.Reason.{Reason}
use Rattle.ssh_host_rules.specs.HostAdmission.{AdmitsHost}
use Rattle.ssh_host_rules.specs.Revocation.{IsOwn}
use Rattle.ssh_trust.specs.declared.decision.Cause.{Cause}
use Rattle.ssh_trust.specs.declared.decision.Cause.TheVariants.{NoLine, NotVouched, Revoked, RevocationUnreadable, TouchMissing, VerifyMissing}
use Rattle.ssh_trust.specs.declared.decision.Decision.{Decision}
use Rattle.ssh_trust.specs.declared.decision.Decision.TheVariants.{Granted, Denied}
use Rattle.ssh_trust.specs.declared.host_scan.HostScan.{HostScan}
use Rattle.ssh_trust.specs.Candidate.{IsFirstAdmitted}
use Rattle.ssh_trust.specs.FileLines.{StandsAt}
use Rattle.ssh_trust.specs.HostScan.{host_scan_of}

-- ======== as a relation

-- the least line that spells an entry that admits the host's key
abbrev pub IsHostCandidate : List ℕ → HostClaim → ℕ → KnownEntry → Type 0
IsHostCandidate file claim i e = IsFirstAdmitted KnownEntry SpellsKnown (λ f. AdmitsHost f claim) file i e

-- line i of the file has this property
abbrev pub HoldsAt : (List ℕ → Type 0) → List ℕ → ℕ → Type 0
HoldsAt P file i = (line : List ℕ) × StandsAt file i line × P line

-- a line revokes the offered key, or the certificate's signer, whichever host it names
abbrev pub RevokesOwn : Offer → List ℕ → Type 0
RevokesOwn offer line = (blob : List ℕ) × RevokesBytes line blob × IsOwn offer blob

abbrev pub RevokesAt : List ℕ → Offer → ℕ → Type 0
RevokesAt file offer i = HoldsAt (RevokesOwn offer) file i

-- line i may revoke any key
abbrev pub UnreadableRevocationAt : List ℕ → ℕ → Type 0
UnreadableRevocationAt file i = HoldsAt IsUnreadableRevocation file i

-- the least number of which this holds
pub record IsLeast (P : ℕ → Type 0) (n : ℕ) : Type 0 where
  pub holds : P n
  pub least : (k : ℕ) → k < n → P k → ⊥

-- the conditions of a grant
pub record IsHostGrant (file : List ℕ) (claim : HostClaim) (vouched : List Signed) (i : ℕ) (e : KnownEntry) : Type 0 where
  pub candidate : IsHostCandidate file claim i e
  -- No line of the whole file revokes the key or the signer,
  pub unrevoked : (n : ℕ) → RevokesAt file claim.offer n → ⊥
  -- and none may revoke any key.
  pub no_unreadable_revocation : (n : ℕ) → UnreadableRevocationAt file n → ⊥
  pub all_vouched : AllVouched vouched (host_evidence claim)

-- a cause that names a line names the first such line
abbrev pub HostCauseMeans : List ℕ → HostClaim → Cause → Type 0
HostCauseMeans file claim (Revoked n) = IsLeast (RevokesAt file claim.offer) n
HostCauseMeans file claim (RevocationUnreadable n) = IsLeast (UnreadableRevocationAt file) n
HostCauseMeans file claim NoLine = Unit {0}
HostCauseMeans file claim TouchMissing = ⊥
HostCauseMeans file claim VerifyMissing = ⊥
HostCauseMeans file claim (NotVouched index) = Unit {0}

-- Granted names the candidate and the evidence, and gives no rights. Denied means that no line satisfies the conditions
-- of a grant.
abbrev pub HostMeans : List ℕ → HostClaim → List Signed → Decision → Type 0
HostMeans file claim vouched (Granted line rights reasons evidence) =
    (e : KnownEntry) × IsHostGrant file claim vouched line e × (rights ≡ None) × (evidence ≡ host_evidence claim)
HostMeans file claim vouched (Denied why reasons evidence) =
    ((i : ℕ) (e : KnownEntry) → IsHostGrant file claim vouched i e → ⊥) × HostCauseMeans file claim why × (evidence ≡ host_evidence claim)

-- ======== as a function

-- by the first line that revokes the key, and the first that may
abbrev pub revocation_cause : Option ℕ → Option ℕ → Option Cause
revocation_cause (Some line) unreadable_revocation = Some (Revoked line)
revocation_cause None (Some line) = Some (RevocationUnreadable line)
revocation_cause None None = None

-- by the candidate's line, and the least index that is not vouched for
abbrev pub trust_by : Option ℕ → Option ℕ → List (ℕ × Reason) → List Signed → Decision
trust_by None unvouched reasons evidence = Denied NoLine reasons evidence
trust_by (Some line) (Some index) reasons evidence = Denied (NotVouched index) reasons evidence
trust_by (Some line) None reasons evidence = Granted line None reasons evidence

-- a revocation comes first
abbrev pub host_decision_by : Option Cause → Option ℕ → Option ℕ → List (ℕ × Reason) → List Signed → Decision
host_decision_by (Some why) candidate unvouched reasons evidence = Denied why reasons evidence
host_decision_by None candidate unvouched reasons evidence = trust_by candidate unvouched reasons evidence

abbrev pub host_decision_of : HostScan → List Signed → List Signed → Decision
host_decision_of s vouched evidence =
    host_decision_by (revocation_cause s.revoked s.unreadable_revocation) s.admission.candidate (first_unvouched vouched evidence) s.admission.reasons evidence

unfoldable pub host_decision : List ℕ → HostClaim → List Signed → Decision
host_decision file claim vouched = host_decision_of (host_scan_of claim file) vouched (host_evidence claim)
