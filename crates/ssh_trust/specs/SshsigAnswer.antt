-- The answer to a file signature: whether it is for the namespace, and vouched for.
use Rattle.std.specs.Prelude.{◌≡◌, ◌≢◌, ℕ, List, Option, Some, None, if◌then◌else◌}
use Rattle.std.specs.Str.{bytes_eq}
use Rattle.ssh_bodies.specs.Sshsig.{Sshsig, IsSshsigBlob}
use Rattle.ssh_offers.specs.declared.claim.Signed.{Signed}
use Rattle.ssh_offers.specs.FileSignature.{AlgorithmServes, file_signed, sshsig_evidence}
use Rattle.ssh_offers.specs.Vouching.{Has, first_unvouched}
use Rattle.ssh_trust.specs.declared.decision.SshsigAnswer.{SshsigAnswer}
use Rattle.ssh_trust.specs.declared.decision.SshsigAnswer.TheVariants.{Vouched, OtherNamespace, NotVouched}

-- ======== as a relation

-- the bytes are the body of this file signature, and its algorithm fits its key
pub record IsOfBody (body : List ℕ) (v : Sshsig) : Type 0 where
  pub spelled : IsSshsigBlob v body
  pub serves : AlgorithmServes v

-- Vouched: the body's signature is for this namespace, and it is vouched for over the signed bytes of this message. The
-- two other answers mean that it is for another namespace, or that it is not vouched for.
abbrev pub SshsigMeans : List ℕ → List ℕ → List ℕ → List Signed → SshsigAnswer → Type 0
SshsigMeans body message namespace vouched (Vouched evidence) =
    (v : Sshsig) × IsOfBody body v × (v.namespace ≡ namespace) × Has vouched (file_signed v message) × (evidence ≡ sshsig_evidence v message)
SshsigMeans body message namespace vouched OtherNamespace = (v : Sshsig) × IsOfBody body v × (v.namespace ≢ namespace)
SshsigMeans body message namespace vouched (NotVouched evidence) =
    (v : Sshsig) × IsOfBody body v × (v.namespace ≡ namespace) × (¬ Has vouched (file_signed v message)) × (evidence ≡ sshsig_evidence v message)

-- ======== as a function

-- by the least index that is not vouched for
abbrev pub vouching_answer : List Signed → Option ℕ → SshsigAnswer
vouching_answer evidence None = Vouched evidence
vouching_answer evidence (Some index) = NotVouched evidence

abbrev pub vouched_answer : List Signed → List Signed → SshsigAnswer
vouched_answer vouched evidence = vouching_answer evidence (first_unvouched vouched evidence)

-- the answer to a file signature, a message and a namespace, where these signatures are vouched for
unfoldable pub sshsig_answer : Sshsig → List ℕ → List ℕ → List Signed → SshsigAnswer
sshsig_answer v message namespace vouched = if bytes_eq v.namespace namespace then vouched_answer vouched (sshsig_evidence v message) else OtherNamespace
