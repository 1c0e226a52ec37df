-- A file signature by the digest of its message: the signed bytes and the answer depend on the message only by its
-- digest (PROTOCOL.sshsig).
use Rattle.std.specs.Prelude.{◌≡◌, ℕ, Bool, List, [], ◌∷◌, ◌++◌, if◌then◌else◌}
use Rattle.std.specs.Str.{bytes_eq}
use Rattle.ssh_wire.specs.Spelling.{string}
use Rattle.ssh_keys.specs.PublicKey.{key_blob}
use Rattle.ssh_keys.specs.Signature.{signature_blob}
use Rattle.ssh_bodies.specs.declared.sshsig.HashName.{HashName}
use Rattle.ssh_bodies.specs.Sshsig.{Sshsig, digest_of, hash_name, sshsig_magic}
use Rattle.ssh_offers.specs.declared.claim.Signed.{Signed}
use Rattle.ssh_trust.specs.declared.decision.SshsigAnswer.{SshsigAnswer}
use Rattle.ssh_trust.specs.declared.decision.SshsigAnswer.TheVariants.{NotVouched, OtherNamespace, Vouched}
use Rattle.ssh_trust.specs.SshsigAnswer.{vouched_answer}
use Rattle.ssh_program.specs.declared.sshsig.MessageDigest.{MessageDigest}
use Rattle.ssh_program.specs.declared.sshsig.MessageDigest.TheVariants.{Sha256, Sha512}

abbrev pub digest_bytes : MessageDigest → List ℕ
digest_bytes (Sha256 bytes) = bytes
digest_bytes (Sha512 bytes) = bytes

-- the digest of a message by this hash (FIPS 180-4)
abbrev pub IsDigest : HashName → List ℕ → MessageDigest → Type 0
IsDigest hash message digest = digest_bytes digest ≡ digest_of hash message

-- the bytes that are signed for a message with this digest
unfoldable pub text_by_digest : Sshsig → List ℕ → List ℕ
text_by_digest v digest = sshsig_magic ++ (string v.namespace ++ (string v.reserved ++ (string (hash_name v.hash) ++ string digest)))

-- the signature to verify over such a message, by the key of the file signature
unfoldable pub signed_by_digest : Sshsig → List ℕ → Signed
signed_by_digest v digest = record { key = key_blob v.key; message = text_by_digest v digest; signature = signature_blob v.signature }

-- the answer where the message has this digest
unfoldable pub answer_by_digest : Sshsig → List ℕ → List ℕ → List Signed → SshsigAnswer
answer_by_digest v digest namespace vouched = if bytes_eq v.namespace namespace then vouched_answer vouched (signed_by_digest v digest ∷ []) else OtherNamespace

-- the same for one signature, by whether it is vouched for
abbrev pub answer_where : Bool → List Signed → SshsigAnswer
answer_where is_vouched evidence = if is_vouched then Vouched evidence else NotVouched evidence
