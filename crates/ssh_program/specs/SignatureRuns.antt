-- What a run of `sshsig` that ends with status 0 or 1 means (this project's rule).
use Rattle.std.specs.Prelude.{◌≡◌, ◌≢◌, ℕ, List, Some, Ok}
use Rattle.clap.specs.Words.{Row}
use Rattle.ssh_offers.specs.declared.claim.Signed.{Signed}
use Rattle.ssh_offers.specs.FirstRefusal.{AreBytes}
use Rattle.ssh_trust.specs.declared.decision.SshsigAnswer.{SshsigAnswer}
use Rattle.ssh_trust.specs.declared.decision.SshsigAnswer.TheVariants.{Vouched}
use Rattle.ssh_trust.specs.SshsigAnswer.{SshsigMeans}
use Rattle.ssh_print.specs.Responses.{Response}
use Rattle.ssh_print.specs.SshsigText.{sshsig_response}
use Rattle.ssh_files.specs.SourceState.{SourceState, bytes_at}
use Rattle.ssh_files.specs.Parts.{after_whole}
use Rattle.ssh_files.specs.Loading.{within_limit}
use Rattle.ssh_program.specs.declared.subcommand.Subcommand.TheVariants.{Sshsig}
use Rattle.ssh_program.specs.FileNames.{SshsigQuestion}
use Rattle.ssh_program.specs.Audits.{after_vouching, vouched_in}
use Rattle.ssh_program.specs.CommandLine.{request_of}
use Rattle.ssh_program.specs.Requests.{request_words, source_of}
use Rattle.ssh_program.specs.Spelling.{sshsig_question}

-- the body of a file signature, if it is there, is of bytes
abbrev pub BodyBytes : SshsigQuestion → SourceState → Type 0
BodyBytes w s = (body : List ℕ) → within_limit (bytes_at (after_vouching w.vouch s) w.body) ≡ Some body → AreBytes body

-- the arguments ask this of a file signature, whose body is of bytes
pub record AsksSignature (words : List (List ℕ)) (s : SourceState) (w : SshsigQuestion) : Type 0 where
  pub rows : List Row
  pub request : request_of (request_words words s) ≡ Some (record { subcommand = Sshsig; rows = rows })
  pub question : sshsig_question rows ≡ Ok w
  pub bytes : BodyBytes w (source_of words s)

-- The vouch file vouches for these, the body and the message have these bytes, and of them the answer is this; it was printed.
pub record SignatureAnswered (w : SshsigQuestion) (s : SourceState) (r : Response) : Type 0 where
  pub vouched : List Signed
  pub reported : vouched_in w.vouch s ≡ Ok vouched
  pub body : List ℕ
  pub body_read : within_limit (bytes_at (after_vouching w.vouch s) w.body) ≡ Some body
  pub message : List ℕ
  pub message_read : within_limit (bytes_at (after_whole (after_vouching w.vouch s) w.body) w.message) ≡ Some message
  pub answer : SshsigAnswer
  pub means : SshsigMeans body message w.namespace vouched answer
  pub printed : r ≡ sshsig_response (Ok answer)

-- status 0: the signature is for the namespace, and it is vouched for
pub record SignatureVouched (w : SshsigQuestion) (s : SourceState) (r : Response) : Type 0 where
  pub answered : SignatureAnswered w s r
  pub evidence : List Signed
  pub vouched : answered.answer ≡ Vouched evidence

-- status 1: it is for another namespace, or it is not vouched for
pub record SignatureUnvouched (w : SshsigQuestion) (s : SourceState) (r : Response) : Type 0 where
  pub answered : SignatureAnswered w s r
  pub unvouched : (evidence : List Signed) → answered.answer ≢ Vouched evidence
