-- File signatures and their encoding as one body (PROTOCOL.sshsig).
use Rattle.std.specs.Prelude.{◌≡◌, ◌≢◌, ℕ, ◌≤◌, List, [], ◌∷◌, ◌++◌, length, codes}
use Rattle.std.specs.List.{concat}
use Rattle.sha2.specs.Sha256.{sha256}
use Rattle.sha2.specs.Sha512.{sha512}
use Rattle.ssh_wire.specs.Spelling.{string, uint32}
use Rattle.ssh_keys.specs.PublicKey.{PublicKey, key_blob, longest, IsKey}
use Rattle.ssh_keys.specs.Signature.{Signature, signature_blob, IsSignature}
use Rattle.ssh_bodies.specs.declared.sshsig.HashName.{HashName}
use Rattle.ssh_bodies.specs.declared.sshsig.HashName.TheVariants.{Sha256, Sha512}

-- the fields of a file signature as values, whether it was read or is to be written
pub record Sshsig : Type 0 where
  pub key : PublicKey
  pub namespace : List ℕ
  pub reserved : List ℕ
  pub hash : HashName
  pub signature : Signature

-- the name of a hash (PROTOCOL.sshsig)
abbrev pub hash_name : HashName → List ℕ
hash_name Sha256 = codes "sha256"
hash_name Sha512 = codes "sha512"

-- the digest of a message (FIPS 180-4)
abbrev pub digest_of : HashName → List ℕ → List ℕ
digest_of Sha256 message = sha256 message
digest_of Sha512 message = sha512 message

-- the magic bytes with which a body and the signed bytes begin
abbrev pub sshsig_magic : List ℕ
sshsig_magic = codes "SSHSIG"

-- all fields in the order of the body, with the magic bytes and the version
abbrev pub sshsig_row : Sshsig → List (List ℕ)
sshsig_row v = sshsig_magic ∷ uint32 1 ∷ string (key_blob v.key) ∷ string v.namespace ∷ string v.reserved ∷ string (hash_name v.hash) ∷ string (signature_blob v.signature) ∷ []

-- the body of a file signature
unfoldable pub sshsig_blob : Sshsig → List ℕ
sshsig_blob v = concat (sshsig_row v)

-- the bytes that are signed for a message
unfoldable pub signed_bytes : Sshsig → List ℕ → List ℕ
signed_bytes v message = sshsig_magic ++ (string v.namespace ++ (string v.reserved ++ (string (hash_name v.hash) ++ string (digest_of v.hash message))))

-- a file signature that has a body: the namespace is not empty, and the body has at most 262,144 bytes
-- (this project's limit)
pub record IsSshsig (v : Sshsig) : Type 0 where
  pub key : IsKey v.key
  pub namespace : v.namespace ≢ []
  pub signature : IsSignature v.signature
  pub length : length (sshsig_blob v) ≤ longest

-- the bytes are the body of this file signature
pub record IsSshsigBlob (v : Sshsig) (bytes : List ℕ) : Type 0 where
  pub is_sshsig : IsSshsig v
  pub spelled : bytes ≡ sshsig_blob v
