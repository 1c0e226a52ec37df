-- The fingerprint of the key in an offer, as `ssh-keygen -l` prints it after `SHA256:` (ssh-keygen(1)): of a certificate it
-- is that of the certified key.
use Rattle.std.specs.Prelude.{ℕ, if◌then◌else◌, List, Option, Some, None, Result, Ok, Err, option_map}
use Rattle.sha2.specs.Sha256.{sha256}
use Rattle.ssh_keys.specs.Fingerprint.{digest_text_of}
use Rattle.ssh_keys.specs.PublicKey.{key_blob}
use Rattle.ssh_certs.specs.Certificate as certs
use Rattle.ssh_certs.specs.CertificateReading.{certificate_in}
use Rattle.ssh_certs.specs.declared.reading.CertError.{CertError}
use Rattle.ssh_findings.specs.OpenSshBlob.{openssh_key}
use Rattle.ssh_print.specs.Offering.{Offered}

-- the blob of the certified key
abbrev pub certified_or : Result certs.Certificate CertError → List ℕ → List ℕ
certified_or (Ok cert) blob = key_blob cert.key
certified_or (Err e) blob = blob

-- the blob of the plain key: the offered one, or the one in the certificate
abbrev pub plain_blob_of : Offered → List ℕ
plain_blob_of o = if o.is_certificate then certified_or (certificate_in o.blob) o.blob else o.blob

abbrev pub or_same : Option (List ℕ) → List ℕ → List ℕ
or_same None blob = blob
or_same (Some read) blob = read

-- the canonical blob of the key that OpenSSH reads in a blob; where it reads none, the blob itself
abbrev pub blob_as_read : List ℕ → List ℕ
blob_as_read blob = or_same (option_map key_blob (openssh_key blob)) blob

abbrev pub offer_print : Offered → List ℕ
offer_print o = digest_text_of (sha256 (blob_as_read (plain_blob_of o)))
