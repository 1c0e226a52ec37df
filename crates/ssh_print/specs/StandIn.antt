-- The stand-in for the missing signature of a key in question (this project's rule).
use Rattle.std.specs.Prelude.{Bool, true, false, ℕ, List, [], ◌∷◌, codes, Option, Some, None}
use Rattle.ssh_keys.specs.declared.kind.KeyKind.{KeyKind}
use Rattle.ssh_keys.specs.declared.kind.KeyKind.TheVariants.{Rsa, SkP256, SkEd25519}
use Rattle.ssh_keys.specs.Names.{certificate_name_of, key_name_of}
use Rattle.ssh_keys.specs.Signature.{Signature, signature_blob, signature_with}

-- the algorithm of a signature by a key: its type, but for RSA the name with SHA-512 (RFC 8332 section 3)
abbrev pub signature_algorithm : KeyKind → List ℕ
signature_algorithm Rsa = codes "rsa-sha2-512"
signature_algorithm kind = key_name_of kind

-- the algorithm name with which a certificate of a key is offered
abbrev pub certificate_algorithm : KeyKind → List ℕ
certificate_algorithm Rsa = codes "rsa-sha2-512-cert-v01@openssh.com"
certificate_algorithm kind = certificate_name_of kind

-- the algorithm name with which a login offers the key, or a certificate of it
abbrev pub login_algorithm : KeyKind → Bool → List ℕ
login_algorithm kind true = certificate_algorithm kind
login_algorithm kind false = signature_algorithm kind

-- a security key was touched (01) and verified its user (04), and its counter is 1 (PROTOCOL.u2f)
abbrev pub security_key : KeyKind → Option (ℕ × ℕ)
security_key SkP256 = Some (5, 1)
security_key SkEd25519 = Some (5, 1)
security_key kind = None

-- the signature: one byte, which is never verified
abbrev pub stand_in_signature : KeyKind → Signature
stand_in_signature kind = signature_with (signature_algorithm kind) (0 ∷ []) (security_key kind)

abbrev pub stand_in : KeyKind → List ℕ
stand_in kind = signature_blob (stand_in_signature kind)
