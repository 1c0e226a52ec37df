-- A file signature that was read from its body, and its evidence.
use Rattle.std.specs.Prelude.{◌≡◌, ℕ, List, [], ◌∷◌, Result, Ok}
use Rattle.ssh_wire.specs.Reading.{◌>>=◌}
use Rattle.ssh_keys.specs.declared.signature.Fit.TheVariants.{Yes}
use Rattle.ssh_keys.specs.PublicKey.{kind_of, key_blob}
use Rattle.ssh_keys.specs.Signature.{fit_of, signature_blob}
use Rattle.ssh_bodies.specs.Sshsig.{Sshsig, signed_bytes}
use Rattle.ssh_bodies.specs.SshsigReading.{sshsig_in}
use Rattle.ssh_offers.specs.declared.claim.AuditError.{AuditError}
use Rattle.ssh_offers.specs.declared.claim.AuditError.TheVariants.{Body}
use Rattle.ssh_offers.specs.declared.claim.Signed.{Signed}
use Rattle.ssh_offers.specs.HostClaim.{fitting_test}
use Rattle.ssh_offers.specs.Refusal.{or_refuse}

-- the algorithm of the signature fits the key, and is not RSA with SHA-1 (RFC 8332)
abbrev pub AlgorithmServes : Sshsig → Type 0
AlgorithmServes v = fit_of (kind_of v.key) (v.signature).algorithm ≡ Yes

-- The file signature of a body, or its first refusal: the bytes are not a body; or the algorithm does not fit the key
-- (this project's rule: RSA with SHA-1 is weak, as for logins).
unfoldable pub sshsig_claim : List ℕ → Result Sshsig AuditError
sshsig_claim body = do
  file_signature ← or_refuse Body (sshsig_in body)
  _ ← fitting_test (fit_of (kind_of file_signature.key) (file_signature.signature).algorithm)
  Ok file_signature

-- the signature over a message by the key of a file signature (PROTOCOL.sshsig)
unfoldable pub file_signed : Sshsig → List ℕ → Signed
file_signed v message = record { key = key_blob v.key; message = signed_bytes v message; signature = signature_blob v.signature }

-- the evidence: that signature alone
abbrev pub sshsig_evidence : Sshsig → List ℕ → List Signed
sshsig_evidence v message = file_signed v message ∷ []
