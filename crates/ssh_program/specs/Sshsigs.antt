-- The response to `sshsig`, by the files of a source.
use Rattle.std.specs.Prelude.{◌≡◌, ◌⊎◌, ℕ, List, Option, Some, None, Result, Ok, Err, if◌then◌else◌}
use Rattle.std.specs.Str.{bytes_eq}
use Rattle.ssh_offers.specs.declared.claim.AuditError.{AuditError}
use Rattle.ssh_offers.specs.declared.claim.Signed.{Signed}
use Rattle.ssh_bodies.specs.Sshsig.{Sshsig}
use Rattle.ssh_offers.specs.FileSignature.{sshsig_claim}
use Rattle.ssh_trust.specs.declared.decision.SshsigAnswer.{SshsigAnswer}
use Rattle.ssh_trust.specs.SshsigAnswer.{sshsig_answer}
use Rattle.ssh_program.specs.Audits.{IsFileFault, IsVouchReadFault, after_vouching, vouched_in}
use Rattle.clap.specs.Words.{Row}
use Rattle.ssh_program.specs.FileNames.{SshsigQuestion}
use Rattle.ssh_program.specs.Spelling.{RespondsTo, sshsig_question}
use Rattle.ssh_files.specs.SourceState.{SourceState, bytes_at, dash}
use Rattle.ssh_files.specs.Parts.{after_whole}
use Rattle.ssh_files.specs.Loading.{NoReadFailed, within_limit}
use Rattle.ssh_print.specs.Responses.{Response, no_file_response}
use Rattle.ssh_print.specs.SshsigText.{sshsig_response}

-- ---- claims

-- the answer by a claim, which may be refused
abbrev pub claim_answer : {C : Type 0} → (C → SshsigAnswer) → Result C AuditError → Result SshsigAnswer AuditError
claim_answer answer (Err e) = Err e
claim_answer answer (Ok v) = Ok (answer v)

-- ---- files: the vouch file first, then the body's, then the message's

-- the response after the claim of the body was read, or refused
abbrev pub claim_over : SshsigQuestion → List Signed → Result Sshsig AuditError → Option (List ℕ) → Response
claim_over w vouched claim None = no_file_response w.message
claim_over w vouched claim (Some message) = sshsig_response (claim_answer (λ v. sshsig_answer v message w.namespace vouched) claim)

abbrev pub claim_response : SshsigQuestion → List Signed → Result Sshsig AuditError → SourceState → Response
claim_response w vouched claim s = claim_over w vouched claim (within_limit (bytes_at s w.message))

-- the response after the body was read
abbrev pub message_response : SshsigQuestion → List Signed → List ℕ → SourceState → Response
message_response w vouched body s = claim_response w vouched (sshsig_claim body) s

abbrev pub body_over : SshsigQuestion → List Signed → SourceState → Option (List ℕ) → Response
body_over w vouched s None = no_file_response w.body
body_over w vouched s (Some body) = message_response w vouched body (after_whole s w.body)

-- the response after the vouch file was read
abbrev pub body_response : SshsigQuestion → List Signed → SourceState → Response
body_response w vouched s = body_over w vouched s (within_limit (bytes_at s w.body))

abbrev pub vouched_over : SshsigQuestion → SourceState → Result (List Signed) Response → Response
vouched_over w s (Err r) = r
vouched_over w s (Ok vouched) = body_response w vouched s

-- the response where the vouch file, if there is one, has this name
abbrev pub signature_over : SshsigQuestion → Option (List ℕ) → SourceState → Response
signature_over w vouch s = vouched_over w (after_vouching vouch s) (vouched_in vouch s)

abbrev pub signature_response : SshsigQuestion → SourceState → Response
signature_response w s = signature_over w w.vouch s

-- ---- failed reads

-- the body's read failed; or, after it gave its bytes, the message's did
abbrev pub IsContentFault : SshsigQuestion → SourceState → Option SourceState → Response → Type 0
IsContentFault w s t r = IsFileFault w.body s t r
    ⊎ ((body : List ℕ) × (within_limit (bytes_at s w.body) ≡ Some body) × IsFileFault w.message (after_whole s w.body) t r)

-- the name of a vouch file that can be read twice, which standard input cannot
abbrev pub read_again : Option (List ℕ) → Option (List ℕ)
read_again None = None
read_again (Some name) = if bytes_eq name dash then None else Some name

-- the claim is not refused and is on the namespace that is asked for: otherwise the vouch file is not read again
abbrev pub IsClaimOn : List ℕ → Result Sshsig AuditError → Type 0
IsClaimOn namespace (Err e) = ⊥
IsClaimOn namespace (Ok v) = v.namespace ≡ namespace

-- the claim is on that namespace, the message gave its bytes, and then the second read of the file of this name failed
abbrev pub IsSecondFault : SshsigQuestion → Option (List ℕ) → Result Sshsig AuditError → SourceState → Option SourceState → Response → Type 0
IsSecondFault w again claim s t r = IsClaimOn w.namespace claim
    × ((message : List ℕ) × (within_limit (bytes_at s w.message) ≡ Some message))
    × IsVouchReadFault again (after_whole s w.message) t r

-- the same after the body gave its bytes
abbrev pub IsLastFault : SshsigQuestion → Option (List ℕ) → SourceState → Option SourceState → Response → Type 0
IsLastFault w again s t r = (body : List ℕ) × (within_limit (bytes_at s w.body) ≡ Some body)
    × IsSecondFault w again (sshsig_claim body) (after_whole s w.body) t r

-- the vouch file's read failed; or, after it gave its signatures, one of the others; or, after these gave their bytes,
-- the second read of a vouch file with a name
abbrev pub IsSshsigReadFault : SshsigQuestion → SourceState → Option SourceState → Response → Type 0
IsSshsigReadFault w s t r = IsVouchReadFault w.vouch s t r
    ⊎ ((vouched : List Signed) × (vouched_in w.vouch s ≡ Ok vouched)
    × (IsContentFault w (after_vouching w.vouch s) t r ⊎ IsLastFault w (read_again w.vouch) (after_vouching w.vouch s) t r))

-- the response is the defined one and no read failed; or a read failed, and the response is the fault of that file
abbrev pub Signs : SshsigQuestion → SourceState → Option SourceState → Response → Type 0
Signs w s t r = (NoReadFailed s t × (r ≡ signature_response w s)) ⊎ IsSshsigReadFault w s t r

-- ---- options

abbrev pub RespondsToSshsig : List Row → SourceState → Option SourceState → Response → Type 0
RespondsToSshsig rows = RespondsTo Signs (sshsig_question rows)
