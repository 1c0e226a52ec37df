-- The contracts of the steps of `login` and `host`, each with the state of the source before and after it.
use Rattle.std.specs.Prelude.{◌≡◌, ◌⊎◌, ℕ, Bool, true, false, List, Option, None, Result, Ok, Err}
use Rattle.ssh_files.specs.SourceState.{SourceState, bytes_at}
use Rattle.ssh_files.specs.Loading.{NoReadFailed, OneReadFailed}
use Rattle.ssh_files.specs.declared.read.ReadError.{ReadError}
use Rattle.ssh_files.specs.declared.read.ReadError.TheVariants as fault
use Rattle.ssh_offers.specs.declared.claim.AuditError.{AuditError}
use Rattle.ssh_offers.specs.declared.claim.AuditError.TheVariants.{Read, Memory}
use Rattle.ssh_offers.specs.declared.claim.Signed.{Signed}
use Rattle.ssh_trust.specs.declared.decision.Decision.{Decision}
use Rattle.ssh_print.specs.Responses.{Response, no_file_response}
use Rattle.ssh_program.specs.Audits.{Deciding, IsTrustReadFault, answer_over, decided_response, refusal_of}

-- the response to a file, other than a trust file, whose bytes could not be had
abbrev pub IsFaultOf : List ℕ → ReadError → Response → Type 0
IsFaultOf name fault.Memory r = ⊥
IsFaultOf name e r = r ≡ no_file_response name

-- the result of the trust file of this name with these bytes: memory could not be allocated, or a read of it failed, or
-- it is the answer
abbrev pub AnswersFile : Deciding → List Signed → List ℕ → Option (List ℕ) → SourceState → Option SourceState → Result Decision AuditError → Type 0
AnswersFile by vouched name bytes s t result = (result ≡ Err Memory)
    ⊎ (((refusal_of by ≡ None) × OneReadFailed s t name × (result ≡ Err Read)) ⊎ (NoReadFailed s t × (result ≡ answer_over by vouched bytes)))

-- the response by the trust file of this name, where these signatures are vouched for; or a read of it failed
abbrev pub AuditsFile : Deciding → List ℕ → List Signed → SourceState → Option SourceState → Response → Type 0
AuditsFile by name vouched s t r = (NoReadFailed s t × (r ≡ decided_response by vouched (bytes_at s name))) ⊎ IsTrustReadFault by name s t r

-- the same after the vouch file was read, which may have a fault
abbrev pub AuditsVouched : Deciding → List ℕ → Result (List Signed) Response → SourceState → Option SourceState → Response → Type 0
AuditsVouched by name (Err v) s t r = NoReadFailed s t × (r ≡ v)
AuditsVouched by name (Ok vouched) s t r = AuditsFile by name vouched s t r

-- memory could not be allocated
abbrev pub is_memory : {A : Type 0} → Result A AuditError → Bool
is_memory (Err Memory) = true
is_memory _ = false
