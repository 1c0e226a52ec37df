-- The algorithm names of a login, and the algorithm that its signature must have (RFC 4252 section 7, RFC 8332 section 3,
-- PROTOCOL.certkeys).
use Rattle.std.specs.Prelude.{ℕ, Bool, ◌||◌, true, false, List, codes, Result, Ok, Err, if◌then◌else◌}
use Rattle.std.specs.Str.{bytes_eq}
use Rattle.ssh_keys.specs.declared.kind.KeyKind.{KeyKind}
use Rattle.ssh_keys.specs.declared.kind.KeyKind.TheVariants.{Rsa}
use Rattle.ssh_keys.specs.declared.signature.Fit.{Fit}
use Rattle.ssh_keys.specs.declared.signature.Fit.TheVariants.{Yes, Weak, No}
use Rattle.ssh_keys.specs.Names.{key_name_of, certificate_name_of}
use Rattle.ssh_keys.specs.PublicKey.{kind_of}
use Rattle.ssh_keys.specs.Signature.{fit_of}
use Rattle.ssh_offers.specs.declared.claim.AuditError.{AuditError}
use Rattle.ssh_offers.specs.declared.claim.AuditError.TheVariants.{WrongAlgorithm, WeakSignature, CertSignature}
use Rattle.ssh_offers.specs.Offer.{Offer, plain, certified}

-- the type name of a certificate or a plain key
abbrev pub type_name : Bool → KeyKind → List ℕ
type_name false kind = key_name_of kind
type_name true kind = certificate_name_of kind

-- RSA's two accepted names, by the hash; those of certificates have a suffix
abbrev pub rsa_sha256_name : Bool → List ℕ
rsa_sha256_name false = codes "rsa-sha2-256"
rsa_sha256_name true = codes "rsa-sha2-256-cert-v01@openssh.com"

abbrev pub rsa_sha512_name : Bool → List ℕ
rsa_sha512_name false = codes "rsa-sha2-512"
rsa_sha512_name true = codes "rsa-sha2-512-cert-v01@openssh.com"

-- the names that ask for RSA with SHA-1
abbrev pub is_weak_name : List ℕ → Bool
is_weak_name name = bytes_eq name (key_name_of Rsa) || bytes_eq name (certificate_name_of Rsa)

-- the signature algorithm that a name asks for: RSA has two, and every other kind of key its type name
abbrev pub wanted_algorithm : KeyKind → Bool → List ℕ → Result (List ℕ) AuditError
wanted_algorithm Rsa cert name =
    if bytes_eq name (rsa_sha256_name cert) then Ok (codes "rsa-sha2-256")
    else if bytes_eq name (rsa_sha512_name cert) then Ok (codes "rsa-sha2-512")
    else if is_weak_name name then Err WeakSignature else Err WrongAlgorithm
wanted_algorithm kind cert name = if bytes_eq name (type_name cert kind) then Ok (key_name_of kind) else Err WrongAlgorithm

-- the refusal of a signature that does not have the algorithm that was asked for
abbrev pub other_algorithm : KeyKind → List ℕ → AuditError
other_algorithm Rsa algorithm = if bytes_eq algorithm (key_name_of Rsa) then WeakSignature else WrongAlgorithm
other_algorithm kind algorithm = WrongAlgorithm

-- the signature has the algorithm that was asked for
abbrev pub pairing_test : KeyKind → List ℕ → List ℕ → Result (Unit {0}) AuditError
pairing_test kind wanted algorithm = if bytes_eq algorithm wanted then Ok tt else Err (other_algorithm kind algorithm)

abbrev pub fit_test : Fit → Result (Unit {0}) AuditError
fit_test Yes = Ok tt
fit_test Weak = Err CertSignature
fit_test No = Err CertSignature

-- the algorithm of a certificate's own signature fits its signer
abbrev pub signer_test : Offer → Result (Unit {0}) AuditError
signer_test (plain key) = Ok tt
signer_test (certified c) = fit_test (fit_of (kind_of c.signer) c.signature.algorithm)
