-- Worked names of algorithms, signatures and login bytes. The texts are those of RFC 4253, RFC 5656, RFC 8332, RFC 8709,
-- PROTOCOL.u2f and PROTOCOL.certkeys.
use Rattle.std.specs.Prelude.{◌≡◌, ℕ, true, false, List, [], ◌∷◌, ◌++◌, Option, None, Ok, Err, codes, length, replicate}
use Rattle.jiff.specs.Types.{TimeZone}
use Rattle.ssh_keys.specs.declared.kind.KeyKind.{KeyKind}
use Rattle.ssh_keys.specs.declared.kind.KeyKind.TheVariants.{Rsa, P256, P384, P521, Ed25519, SkP256, SkEd25519}
use Rattle.ssh_keys.specs.PublicKey.{PublicKey, ed25519, p256, p384, p521, rsa, sk_ed25519, sk_p256}
use Rattle.ssh_keys.specs.Signature.{fit_of}
use Rattle.ssh_certs.specs.Certificate.{Certificate}
use Rattle.ssh_offers.specs.declared.claim.AuditError.{AuditError}
use Rattle.ssh_offers.specs.declared.claim.AuditError.TheVariants.{CertSignature, WeakSignature, WrongAlgorithm}
use Rattle.ssh_offers.specs.Algorithms.{pairing_test, signer_test, wanted_algorithm}
use Rattle.ssh_offers.specs.declared.claim.EmptyPrincipals.TheVariants.{Any}
use Rattle.ssh_offers.specs.Evidence.{login_bytes}
use Rattle.ssh_offers.specs.HostClaim.{fitting_test}
use Rattle.ssh_offers.specs.Offer.{certified, plain}
use Rattle.ssh_offers.specs.Query.{Login}

-- The name asks a plain key of this kind for a signature of this algorithm; it asks a certificate for one; it is
-- refused.
abbrev Asks : KeyKind → List ℕ → List ℕ → Type 0
Asks kind name algorithm = wanted_algorithm kind false name ≡ Ok algorithm

abbrev AsksCertified : KeyKind → List ℕ → List ℕ → Type 0
AsksCertified kind name algorithm = wanted_algorithm kind true name ≡ Ok algorithm

abbrev Refused : KeyKind → List ℕ → AuditError → Type 0
Refused kind name e = wanted_algorithm kind false name ≡ Err e

abbrev RefusedCertified : KeyKind → List ℕ → AuditError → Type 0
RefusedCertified kind name e = wanted_algorithm kind true name ≡ Err e

-- each name of a plain key
abbrev pub NamesOfKeys : Type 0
NamesOfKeys =
    Asks Rsa (codes "rsa-sha2-256") (codes "rsa-sha2-256")
    × Asks Rsa (codes "rsa-sha2-512") (codes "rsa-sha2-512")
    × Asks P256 (codes "ecdsa-sha2-nistp256") (codes "ecdsa-sha2-nistp256")
    × Asks P384 (codes "ecdsa-sha2-nistp384") (codes "ecdsa-sha2-nistp384")
    × Asks P521 (codes "ecdsa-sha2-nistp521") (codes "ecdsa-sha2-nistp521")
    × Asks Ed25519 (codes "ssh-ed25519") (codes "ssh-ed25519")
    × Asks SkP256 (codes "sk-ecdsa-sha2-nistp256@openssh.com") (codes "sk-ecdsa-sha2-nistp256@openssh.com")
    × Asks SkEd25519 (codes "sk-ssh-ed25519@openssh.com") (codes "sk-ssh-ed25519@openssh.com")

-- each name of a certificate
abbrev pub NamesOfCertificates : Type 0
NamesOfCertificates =
    AsksCertified Rsa (codes "rsa-sha2-256-cert-v01@openssh.com") (codes "rsa-sha2-256")
    × AsksCertified Rsa (codes "rsa-sha2-512-cert-v01@openssh.com") (codes "rsa-sha2-512")
    × AsksCertified P256 (codes "ecdsa-sha2-nistp256-cert-v01@openssh.com") (codes "ecdsa-sha2-nistp256")
    × AsksCertified P384 (codes "ecdsa-sha2-nistp384-cert-v01@openssh.com") (codes "ecdsa-sha2-nistp384")
    × AsksCertified P521 (codes "ecdsa-sha2-nistp521-cert-v01@openssh.com") (codes "ecdsa-sha2-nistp521")
    × AsksCertified Ed25519 (codes "ssh-ed25519-cert-v01@openssh.com") (codes "ssh-ed25519")
    × AsksCertified SkP256 (codes "sk-ecdsa-sha2-nistp256-cert-v01@openssh.com") (codes "sk-ecdsa-sha2-nistp256@openssh.com")
    × AsksCertified SkEd25519 (codes "sk-ssh-ed25519-cert-v01@openssh.com") (codes "sk-ssh-ed25519@openssh.com")

-- names that ask for RSA with SHA-1, which RSA alone has
abbrev pub WeakNames : Type 0
WeakNames =
    Refused Rsa (codes "ssh-rsa") WeakSignature
    × Refused Rsa (codes "ssh-rsa-cert-v01@openssh.com") WeakSignature
    × RefusedCertified Rsa (codes "ssh-rsa") WeakSignature
    × RefusedCertified Rsa (codes "ssh-rsa-cert-v01@openssh.com") WeakSignature
    × Refused Ed25519 (codes "ssh-rsa") WrongAlgorithm
    × RefusedCertified P256 (codes "ssh-rsa-cert-v01@openssh.com") WrongAlgorithm

-- a certificate's name with a plain key, and a plain key's name with a certificate
abbrev pub NamesOfTheOther : Type 0
NamesOfTheOther =
    Refused Rsa (codes "rsa-sha2-256-cert-v01@openssh.com") WrongAlgorithm
    × Refused Rsa (codes "rsa-sha2-512-cert-v01@openssh.com") WrongAlgorithm
    × Refused P256 (codes "ecdsa-sha2-nistp256-cert-v01@openssh.com") WrongAlgorithm
    × Refused P384 (codes "ecdsa-sha2-nistp384-cert-v01@openssh.com") WrongAlgorithm
    × Refused P521 (codes "ecdsa-sha2-nistp521-cert-v01@openssh.com") WrongAlgorithm
    × Refused Ed25519 (codes "ssh-ed25519-cert-v01@openssh.com") WrongAlgorithm
    × Refused SkP256 (codes "sk-ecdsa-sha2-nistp256-cert-v01@openssh.com") WrongAlgorithm
    × Refused SkEd25519 (codes "sk-ssh-ed25519-cert-v01@openssh.com") WrongAlgorithm
    × RefusedCertified Rsa (codes "rsa-sha2-256") WrongAlgorithm
    × RefusedCertified Rsa (codes "rsa-sha2-512") WrongAlgorithm
    × RefusedCertified P256 (codes "ecdsa-sha2-nistp256") WrongAlgorithm
    × RefusedCertified P384 (codes "ecdsa-sha2-nistp384") WrongAlgorithm
    × RefusedCertified P521 (codes "ecdsa-sha2-nistp521") WrongAlgorithm
    × RefusedCertified Ed25519 (codes "ssh-ed25519") WrongAlgorithm
    × RefusedCertified SkP256 (codes "sk-ecdsa-sha2-nistp256@openssh.com") WrongAlgorithm
    × RefusedCertified SkEd25519 (codes "sk-ssh-ed25519@openssh.com") WrongAlgorithm

-- names of no key, of another kind of key, in another case, and with a byte more
abbrev pub OtherNames : Type 0
OtherNames =
    Refused Rsa [] WrongAlgorithm
    × Refused Rsa (codes "rsa-sha2-384") WrongAlgorithm
    × Refused Rsa (codes "RSA-SHA2-256") WrongAlgorithm
    × Refused Rsa (codes "rsa-sha2-256" ++ 0 ∷ []) WrongAlgorithm
    × Refused Rsa (codes "ssh-ed25519") WrongAlgorithm
    × Refused Ed25519 [] WrongAlgorithm
    × Refused Ed25519 (codes "rsa-sha2-256") WrongAlgorithm
    × Refused Ed25519 (codes "sk-ssh-ed25519@openssh.com") WrongAlgorithm
    × Refused SkEd25519 (codes "ssh-ed25519") WrongAlgorithm
    × Refused P256 (codes "ecdsa-sha2-nistp384") WrongAlgorithm
    × Refused P384 (codes "ecdsa-sha2-nistp521") WrongAlgorithm
    × Refused P521 (codes "ecdsa-sha2-nistp256") WrongAlgorithm
    × Refused SkP256 (codes "ecdsa-sha2-nistp256") WrongAlgorithm
    × RefusedCertified Rsa (codes "rsa-sha2-256-cert-v00@openssh.com") WrongAlgorithm
    × RefusedCertified Ed25519 (codes "sk-ssh-ed25519-cert-v01@openssh.com") WrongAlgorithm

-- a signature of this algorithm where another was asked for
abbrev PairedOk : KeyKind → List ℕ → List ℕ → Type 0
PairedOk kind wanted algorithm = pairing_test kind wanted algorithm ≡ Ok tt

abbrev PairedErr : KeyKind → List ℕ → List ℕ → AuditError → Type 0
PairedErr kind wanted algorithm e = pairing_test kind wanted algorithm ≡ Err e

-- the signature's algorithm, and the one that was asked for
abbrev pub SignaturesAsPaired : Type 0
SignaturesAsPaired =
    PairedOk Rsa (codes "rsa-sha2-256") (codes "rsa-sha2-256")
    × PairedOk Rsa (codes "rsa-sha2-512") (codes "rsa-sha2-512")
    × PairedOk SkEd25519 (codes "sk-ssh-ed25519@openssh.com") (codes "sk-ssh-ed25519@openssh.com")
    × PairedErr Rsa (codes "rsa-sha2-256") (codes "rsa-sha2-512") WrongAlgorithm
    × PairedErr Rsa (codes "rsa-sha2-512") (codes "rsa-sha2-256") WrongAlgorithm
    × PairedErr Rsa (codes "rsa-sha2-256") (codes "ssh-rsa") WeakSignature
    × PairedErr Rsa (codes "rsa-sha2-512") (codes "ssh-rsa") WeakSignature
    × PairedErr Rsa (codes "rsa-sha2-512") (codes "ssh-ed25519") WrongAlgorithm
    × PairedErr Ed25519 (codes "ssh-ed25519") (codes "ssh-rsa") WrongAlgorithm
    × PairedErr Ed25519 (codes "ssh-ed25519") (codes "sk-ssh-ed25519@openssh.com") WrongAlgorithm
    × PairedErr P256 (codes "ecdsa-sha2-nistp256") (codes "ecdsa-sha2-nistp384") WrongAlgorithm

-- a host's key or a file signature of a key of this kind, signed by this algorithm
abbrev FitsOk : KeyKind → List ℕ → Type 0
FitsOk kind algorithm = fitting_test (fit_of kind algorithm) ≡ Ok tt

abbrev FitsErr : KeyKind → List ℕ → AuditError → Type 0
FitsErr kind algorithm e = fitting_test (fit_of kind algorithm) ≡ Err e

-- the algorithms of each kind of key, and others
abbrev pub AlgorithmsThatFit : Type 0
AlgorithmsThatFit =
    FitsOk Rsa (codes "rsa-sha2-256")
    × FitsOk Rsa (codes "rsa-sha2-512")
    × FitsOk P256 (codes "ecdsa-sha2-nistp256")
    × FitsOk P384 (codes "ecdsa-sha2-nistp384")
    × FitsOk P521 (codes "ecdsa-sha2-nistp521")
    × FitsOk Ed25519 (codes "ssh-ed25519")
    × FitsOk SkP256 (codes "sk-ecdsa-sha2-nistp256@openssh.com")
    × FitsOk SkEd25519 (codes "sk-ssh-ed25519@openssh.com")
    × FitsErr Rsa (codes "ssh-rsa") WeakSignature
    × FitsErr Rsa (codes "rsa-sha2-384") WrongAlgorithm
    × FitsErr Rsa (codes "rsa-sha2-256-cert-v01@openssh.com") WrongAlgorithm
    × FitsErr Rsa [] WrongAlgorithm
    × FitsErr Ed25519 (codes "ssh-rsa") WrongAlgorithm
    × FitsErr Ed25519 (codes "rsa-sha2-256") WrongAlgorithm
    × FitsErr Ed25519 (codes "sk-ssh-ed25519@openssh.com") WrongAlgorithm
    × FitsErr Ed25519 (codes "ssh-ed25519-cert-v01@openssh.com") WrongAlgorithm
    × FitsErr SkEd25519 (codes "ssh-ed25519") WrongAlgorithm
    × FitsErr P256 (codes "ecdsa-sha2-nistp384") WrongAlgorithm
    × FitsErr P384 (codes "ecdsa-sha2-nistp521") WrongAlgorithm
    × FitsErr P521 (codes "ecdsa-sha2-nistp256") WrongAlgorithm
    × FitsErr SkP256 (codes "ecdsa-sha2-nistp256") WrongAlgorithm

-- a user's certificate that this key signed by a signature of this algorithm
abbrev certificate_by : PublicKey → List ℕ → Certificate
certificate_by signer algorithm = record {
  nonce = 7 ∷ [];
  key = ed25519 (replicate 32 0);
  serial = 5;
  kind_number = 1;
  key_id = codes "id";
  principals = codes "ann" ∷ [];
  after = 100;
  before = 200;
  critical = [];
  extensions = [];
  reserved = [];
  signer = signer;
  signature = record { algorithm = algorithm; bytes = 0xaa ∷ []; sk = None };
}

abbrev SignedOk : PublicKey → List ℕ → Type 0
SignedOk signer algorithm = signer_test (certified (certificate_by signer algorithm)) ≡ Ok tt

abbrev SignedErr : PublicKey → List ℕ → Type 0
SignedErr signer algorithm = signer_test (certified (certificate_by signer algorithm)) ≡ Err CertSignature

-- a point of this length
abbrev point : ℕ → List ℕ
point len = 4 ∷ replicate len 9

-- the signature of a certificate by a key of each kind, with its algorithm; RSA with SHA-1 and others do not fit
abbrev pub SignersOfCertificates : Type 0
SignersOfCertificates =
    SignedOk (rsa 65537 128) (codes "rsa-sha2-256")
    × SignedOk (rsa 65537 128) (codes "rsa-sha2-512")
    × SignedErr (rsa 65537 128) (codes "ssh-rsa")
    × SignedErr (rsa 65537 128) (codes "rsa-sha2-384")
    × SignedErr (rsa 65537 128) (codes "ssh-ed25519")
    × SignedErr (rsa 65537 128) []
    × SignedOk (p256 (point 64)) (codes "ecdsa-sha2-nistp256")
    × SignedErr (p256 (point 64)) (codes "ecdsa-sha2-nistp384")
    × SignedOk (p384 (point 96)) (codes "ecdsa-sha2-nistp384")
    × SignedErr (p384 (point 96)) (codes "ecdsa-sha2-nistp521")
    × SignedOk (p521 (point 132)) (codes "ecdsa-sha2-nistp521")
    × SignedErr (p521 (point 132)) (codes "ecdsa-sha2-nistp256")
    × SignedOk (ed25519 (replicate 32 1)) (codes "ssh-ed25519")
    × SignedErr (ed25519 (replicate 32 1)) (codes "ssh-rsa")
    × SignedErr (ed25519 (replicate 32 1)) (codes "rsa-sha2-256")
    × SignedErr (ed25519 (replicate 32 1)) (codes "sk-ssh-ed25519@openssh.com")
    × SignedOk (sk_p256 (point 64) (codes "ssh:")) (codes "sk-ecdsa-sha2-nistp256@openssh.com")
    × SignedErr (sk_p256 (point 64) (codes "ssh:")) (codes "ecdsa-sha2-nistp256")
    × SignedOk (sk_ed25519 (replicate 32 1) (codes "ssh:")) (codes "sk-ssh-ed25519@openssh.com")
    × SignedErr (sk_ed25519 (replicate 32 1) (codes "ssh:")) (codes "ssh-ed25519")
    × (signer_test (plain (rsa 65537 128)) ≡ Ok tt)

-- ---- the bytes that a client signs (RFC 4252 section 7)

-- an Ed25519 key of 32 zero bytes
abbrev sample_key_blob : List ℕ
sample_key_blob = 0 ∷ 0 ∷ 0 ∷ 11 ∷ (codes "ssh-ed25519" ++ 0 ∷ 0 ∷ 0 ∷ 32 ∷ replicate 32 0)

-- a login by that key, of the user ann in the session 01020304
abbrev login_by : List ℕ → Option (List ℕ) → List ℕ → ℕ → TimeZone → Login
login_by signature host address now zone = record {
  offered = sample_key_blob;
  signature = signature;
  algorithm = codes "ssh-ed25519";
  session = 1 ∷ 2 ∷ 3 ∷ 4 ∷ [];
  user = codes "ann";
  host = host;
  address = address;
  now = now;
  zone = zone;
  empty_principals = Any;
  rsa_minimum = 0;
}

-- its 118 bytes: session, 50, user, service, method, true, algorithm and key
abbrev signed_bytes : List ℕ
signed_bytes =
    0 ∷ 0 ∷ 0 ∷ 4 ∷ 1 ∷ 2 ∷ 3 ∷ 4 ∷ 0x32 ∷ 0 ∷ 0 ∷ 0 ∷ 3 ∷ 0x61 ∷ 0x6e ∷ 0x6e
    ∷ 0 ∷ 0 ∷ 0 ∷ 14 ∷ (codes "ssh-connection" ++ 0 ∷ 0 ∷ 0 ∷ 9 ∷ (codes "publickey" ++ 1
    ∷ 0 ∷ 0 ∷ 0 ∷ 11 ∷ (codes "ssh-ed25519" ++ 0 ∷ 0 ∷ 0 ∷ 51 ∷ sample_key_blob)))

-- They do not depend on the signature, the host, the address, the moment and the zone.
abbrev pub LoginBytesSpelled : Type 0
LoginBytesSpelled =
    (length signed_bytes ≡ 118)
    × ((signature : List ℕ) (host : Option (List ℕ)) (address : List ℕ) (now : ℕ) (zone : TimeZone)
    → login_bytes (login_by signature host address now zone) ≡ signed_bytes)
