-- The contracts of the steps of `sshsig`.
use Rattle.std.specs.Prelude.{◌≡◌, ◌⊎◌, ℕ, List, [], ◌∷◌, Option, Some, Result, Ok, Err}
use Rattle.ssh_files.specs.SourceState.{SourceState}
use Rattle.ssh_files.specs.Loading.{NoReadFailed}
use Rattle.ssh_bodies.specs.Sshsig.{Sshsig}
use Rattle.ssh_offers.specs.FileSignature.{sshsig_claim}
use Rattle.ssh_offers.specs.declared.claim.AuditError.{AuditError}
use Rattle.ssh_offers.specs.declared.claim.Signed.{Signed}
use Rattle.ssh_trust.specs.SshsigAnswer.{vouched_answer}
use Rattle.ssh_program.specs.FileNames.{SshsigQuestion}
use Rattle.ssh_print.specs.Responses.{Response}
use Rattle.ssh_print.specs.SshsigText.{sshsig_response}
use Rattle.ssh_program.specs.Audits.{IsFileFault, IsVouchReadFault, vouched_in}
use Rattle.ssh_program.specs.Digests.{answer_by_digest}
use Rattle.ssh_program.specs.Sshsigs.{IsContentFault, IsLastFault, IsSecondFault, body_response, claim_response}

-- ---- a file signature, by the name of the file that is read again, if one is, and the signatures that are vouched for

-- the response to one signature; or the read of that file failed
abbrev pub SignsOne : Signed → Option (List ℕ) → List Signed → SourceState → Option SourceState → Response → Type 0
SignsOne signed again vouched s t r = (NoReadFailed s t × (r ≡ sshsig_response (Ok (vouched_answer vouched (signed ∷ []))))) ⊎ IsVouchReadFault again s t r

-- the same by the signatures of the file of this name, which is read again for it
abbrev pub SignsAgain : Signed → List ℕ → SourceState → Option SourceState → Response → Type 0
SignsAgain signed name s t r = (vouched : List Signed) → vouched_in (Some name) s ≡ Ok vouched → SignsOne signed (Some name) vouched s t r

-- the response to a claim where the message has this digest; for another namespace the file is not read again
abbrev pub SignsDigest : SshsigQuestion → Sshsig → List ℕ → Option (List ℕ) → List Signed → SourceState → Option SourceState → Response → Type 0
SignsDigest w v digest again vouched s t r = (NoReadFailed s t × (r ≡ sshsig_response (Ok (answer_by_digest v digest w.namespace vouched))))
    ⊎ ((v.namespace ≡ w.namespace) × IsVouchReadFault again s t r)

-- the response to a file signature after the claim of its body was read, or refused
abbrev pub SignsClaim : SshsigQuestion → Result Sshsig AuditError → Option (List ℕ) → List Signed → SourceState → Option SourceState → Response → Type 0
SignsClaim w claim again vouched s t r = (NoReadFailed s t × (r ≡ claim_response w vouched claim s)) ⊎ (IsFileFault w.message s t r ⊎ IsSecondFault w again claim s t r)

-- the same after the bytes of the body were read
abbrev pub SignsMessage : SshsigQuestion → List ℕ → Option (List ℕ) → List Signed → SourceState → Option SourceState → Response → Type 0
SignsMessage w body again vouched s t r = SignsClaim w (sshsig_claim body) again vouched s t r

-- the same before the body is read
abbrev pub SignsBody : SshsigQuestion → Option (List ℕ) → List Signed → SourceState → Option SourceState → Response → Type 0
SignsBody w again vouched s t r = (NoReadFailed s t × (r ≡ body_response w vouched s)) ⊎ (IsContentFault w s t r ⊎ IsLastFault w again s t r)

-- the same after the vouch file was read, which may have a fault
abbrev pub SignsVouched : SshsigQuestion → Option (List ℕ) → Result (List Signed) Response → SourceState → Option SourceState → Response → Type 0
SignsVouched w again (Err v) s t r = NoReadFailed s t × (r ≡ v)
SignsVouched w again (Ok vouched) s t r = SignsBody w again vouched s t r
