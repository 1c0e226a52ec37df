-- The response of `login` and `host` by a trust file and a vouch file of a source.
use Rattle.std.specs.Prelude.{◌≡◌, ◌⊎◌, ℕ, List, [], Option, Some, None, Result, Ok, Err}
use Rattle.ssh_trust.specs.declared.decision.Decision.{Decision}
use Rattle.ssh_offers.specs.declared.claim.AuditError.{AuditError}
use Rattle.ssh_offers.specs.declared.claim.AuditError.TheVariants.{Read}
use Rattle.ssh_offers.specs.declared.claim.Signed.{Signed}
use Rattle.ssh_offers.specs.Query.{HostCheck, Login}
use Rattle.ssh_offers.specs.Evidence.{host_evidence, login_evidence}
use Rattle.ssh_offers.specs.HostClaim.{host_claim}
use Rattle.ssh_offers.specs.LoginClaim.{login_claim}
use Rattle.ssh_trust.specs.Answer.{if_short}
use Rattle.ssh_trust.specs.Reads.{AnswersReader}
use Rattle.ssh_trust.specs.LoginDecision.{login_decision}
use Rattle.ssh_trust.specs.HostDecision.{host_decision}
use Rattle.ssh_program.specs.FileNames.{AuditFiles}
use Rattle.ssh_files.specs.SourceState.{SourceState, bytes_at}
use Rattle.ssh_files.specs.Parts.{part_at, after_part}
use Rattle.ssh_files.specs.VouchFile.{vouched_of}
use Rattle.ssh_files.specs.Loading.{OneReadFailed, NoReadFailed, within_limit}
use Rattle.ssh_print.specs.Responses.{Response, decision_response, no_file_response, refused_response, vouch_response}

-- ---- trust files

-- the decision by the bytes of a trust file, where these signatures are vouched for; or the refusal of the offer
abbrev pub Deciding : Type 0
Deciding = Result (List ℕ → List Signed → Decision) AuditError

-- what came of reading an offer: its claim, as the value that it is seen as, or its refusal
abbrev pub claim_seen : {X C : Type 0} → (X → C) → Result X AuditError → Result C AuditError
claim_seen view (Err e) = Err e
claim_seen view (Ok claim) = Ok (view claim)

-- the decision on an offer that was read, or its refusal
abbrev pub decided_by : {C : Type 0} → (List ℕ → C → List Signed → Decision) → Result C AuditError → Deciding
decided_by decision (Err e) = Err e
decided_by decision (Ok claim) = Ok (λ file vouched. decision file claim vouched)

abbrev pub login_by : Login → Deciding
login_by q = decided_by login_decision (login_claim q)

abbrev pub host_by : HostCheck → Deciding
host_by q = decided_by host_decision (host_claim q)

-- the answer by the whole bytes of a trust file
abbrev pub answer_by : Deciding → List ℕ → List Signed → Result Decision AuditError
answer_by (Err e) file vouched = Err e
answer_by (Ok decision) file vouched = if_short file (decision file vouched)

-- The refusal of the offer is reported before a missing trust file.
abbrev pub answer_over : Deciding → List Signed → Option (List ℕ) → Result Decision AuditError
answer_over (Err e) vouched None = Err e
answer_over (Ok decision) vouched None = Err Read
answer_over by vouched (Some file) = answer_by by file vouched

-- the refusal of the offer, if it is refused
abbrev pub refusal_of : Deciding → Option AuditError
refusal_of (Err e) = Some e
refusal_of (Ok decision) = None

-- the decision by what a reader gives, with the bytes that it has left before and after: the refusal of the offer, or
-- what the bytes decide
abbrev pub DecidesReader : Deciding → List Signed → Option (List ℕ) → Option (List ℕ) → Result Decision AuditError → Type 0
DecidesReader (Err e) vouched old new result = result ≡ Err e
DecidesReader (Ok decision) vouched old new result = AnswersReader old new (λ file. if_short file (decision file vouched)) result

abbrev pub decided_response : Deciding → List Signed → Option (List ℕ) → Response
decided_response by vouched file = decision_response (answer_over by vouched file)

-- the signatures that a decision on an offer rests on, or the refusal of the offer
abbrev pub evidence_by : {C : Type 0} → (C → List Signed) → Result C AuditError → Result (List Signed) AuditError
evidence_by evidence (Err e) = Err e
evidence_by evidence (Ok claim) = Ok (evidence claim)

abbrev pub login_rests : Login → Result (List Signed) AuditError
login_rests q = evidence_by login_evidence (login_claim q)

abbrev pub host_rests : HostCheck → Result (List Signed) AuditError
host_rests q = evidence_by host_evidence (host_claim q)

-- ---- vouch files

abbrev pub or_vouch_fault : Result (List Signed) ℕ → Result (List Signed) Response
or_vouch_fault (Ok vouched) = Ok vouched
or_vouch_fault (Err n) = Err (vouch_response n)

abbrev pub vouched_or_fault : List ℕ → Option (List ℕ) → Result (List Signed) Response
vouched_or_fault name None = Err (no_file_response name)
vouched_or_fault name (Some bytes) = or_vouch_fault (vouched_of bytes)

-- the signatures of the vouch file, or its fault
abbrev pub vouched_in : Option (List ℕ) → SourceState → Result (List Signed) Response
vouched_in None s = Ok []
vouched_in (Some name) s = vouched_or_fault name (within_limit (part_at s name))

-- the source after the vouch file was read
abbrev pub after_vouching : Option (List ℕ) → SourceState → SourceState
after_vouching None s = s
after_vouching (Some name) s = after_part s name

-- ---- answers

-- the response by the trust file of this name, after the vouch file was read
abbrev pub vouched_response : Deciding → List ℕ → SourceState → Result (List Signed) Response → Response
vouched_response by name s (Err r) = r
vouched_response by name s (Ok vouched) = decided_response by vouched (bytes_at s name)

abbrev pub audit_response : Deciding → AuditFiles → SourceState → Response
audit_response by f s = vouched_response by f.trust (after_vouching f.vouch s) (vouched_in f.vouch s)

-- ---- failed reads

-- the read of this file failed, no other file was chosen, and the response names it
abbrev pub IsFileFault : List ℕ → SourceState → Option SourceState → Response → Type 0
IsFileFault name s t r = OneReadFailed s t name × (r ≡ no_file_response name)

-- the same of the vouch file, if there is one
abbrev pub IsVouchReadFault : Option (List ℕ) → SourceState → Option SourceState → Response → Type 0
IsVouchReadFault None s t r = ⊥
IsVouchReadFault (Some name) s t r = IsFileFault name s t r

-- the offer is not refused, the read of the trust file of this name failed, and the response is A9
abbrev pub IsTrustReadFault : Deciding → List ℕ → SourceState → Option SourceState → Response → Type 0
IsTrustReadFault by name s t r = (refusal_of by ≡ None) × OneReadFailed s t name × (r ≡ refused_response Read)

-- the vouch file's read failed; or, after it gave its signatures, the trust file's did
abbrev pub IsAuditFault : Deciding → AuditFiles → SourceState → Option SourceState → Response → Type 0
IsAuditFault by f s t r = IsVouchReadFault f.vouch s t r
    ⊎ ((vouched : List Signed) × (vouched_in f.vouch s ≡ Ok vouched) × IsTrustReadFault by f.trust (after_vouching f.vouch s) t r)

-- the response is the defined one and no read failed; or a read failed, and the response is the fault of that file
abbrev pub Audits : Deciding → AuditFiles → SourceState → Option SourceState → Response → Type 0
Audits by f s t r = (NoReadFailed s t × (r ≡ audit_response by f s)) ⊎ IsAuditFault by f s t r
