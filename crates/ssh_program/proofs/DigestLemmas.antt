-- A message matters only by its digest, and the vouched signatures only by whether they contain its signature.
use Rattle.ssh_program.proofs.Imports.{◌≡◌, ℕ, List, [], ◌∷◌, refl, inl, inr, cases_Bool, Sshsig, digest_of, Signed, is_vouched, vouched_answer, answer_where}
use Rattle.ssh_bodies.specs.Sshsig.{signed_bytes}
use Rattle.ssh_offers.specs.FileSignature.{file_signed}
use Rattle.ssh_trust.specs.SshsigAnswer.{sshsig_answer}
use Rattle.ssh_program.specs.Digests.{answer_by_digest, signed_by_digest, text_by_digest}

pub digest_answers : (v : Sshsig) (message namespace : List ℕ) (vouched : List Signed)
    → sshsig_answer v message namespace vouched ≡ answer_by_digest v (digest_of v.hash message) namespace vouched
unfolding sshsig_answer answer_by_digest file_signed signed_by_digest signed_bytes text_by_digest
digest_answers v message namespace vouched = refl

-- one signature is answered by whether it is vouched for
pub one_answer : (vouched : List Signed) (s : Signed) → answer_where (is_vouched vouched s) (s ∷ []) ≡ vouched_answer vouched (s ∷ [])
one_answer vouched s =
    elim (cases_Bool (is_vouched vouched s)) [
      | inl e ↦ rw e refl
      | inr e ↦ rw e refl
    ]
