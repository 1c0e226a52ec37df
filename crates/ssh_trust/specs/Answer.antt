-- The whole answer to a login and a host's key, with refusals and the memory error.
use Rattle.std.specs.Prelude.{◌≡◌, ℕ, nat_lt, List, length, Result, Ok, Err, if◌then◌else◌, ⊤}
use Rattle.ssh_trust.specs.declared.decision.Decision.{Decision}
use Rattle.ssh_offers.specs.declared.claim.AuditError.{AuditError}
use Rattle.ssh_offers.specs.declared.claim.AuditError.TheVariants.{FileTooLong, Memory}
use Rattle.ssh_offers.specs.declared.claim.Signed.{Signed}
use Rattle.ssh_offers.specs.LoginClaim.{LoginClaim}
use Rattle.ssh_offers.specs.HostClaim.{HostClaim}
use Rattle.ssh_trust.specs.LoginDecision.{login_decision}
use Rattle.ssh_trust.specs.HostDecision.{host_decision}
use Rattle.ssh_text.specs.Text.{file_limit}

-- the returned result is the answer, or the memory error
abbrev pub GivesOrMemory : {A : Type 0} → Result A AuditError → Result A AuditError → Type 0
GivesOrMemory answer (Ok x) = answer ≡ Ok x
GivesOrMemory answer (Err Memory) = ⊤
GivesOrMemory answer (Err e) = answer ≡ Err e

-- a refused offer is refused as the definition gives, whether or not memory can be allocated
abbrev pub RefusesAs : {C A : Type 0} → Result C AuditError → Result A AuditError → Type 0
RefusesAs (Ok c) result = Unit {0}
RefusesAs (Err e) result = result ≡ Err e

-- where the offer is not refused, this holds of the claim
abbrev pub OfClaim : {C : Type 0} → Result C AuditError → (C → Type 0) → Type 0
OfClaim (Ok c) P = P c
OfClaim (Err e) P = Unit {0}

-- a result without its count of matcher steps
abbrev pub decided : {A : Type 0} → Result (A × ℕ) AuditError → Result A AuditError
decided (Ok counted) = Ok counted.0
decided (Err e) = Err e

-- the decision on a file within the limit, and A7 for a longer one
abbrev pub if_short : List ℕ → Decision → Result Decision AuditError
if_short file decision = if nat_lt file_limit (length file) then Err FileTooLong else Ok decision

-- the answer to a login whose offer was not refused
abbrev pub login_answer : List ℕ → LoginClaim → List Signed → Result Decision AuditError
login_answer file claim vouched = if_short file (login_decision file claim vouched)

-- the answer to a host's key whose offer was not refused
abbrev pub host_answer : List ℕ → HostClaim → List Signed → Result Decision AuditError
host_answer file claim vouched = if_short file (host_decision file claim vouched)
