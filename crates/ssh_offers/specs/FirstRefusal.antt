-- The first refusal of an offer, as relations over its blobs: each case states which tests were passed before it.
use Rattle.std.specs.Prelude.{◌≡◌, ◌≢◌, ◌⊎◌, ◌<◌, ℕ, List, Ok, Err}
use Rattle.std.specs.List.{AllByRecursion}
use Rattle.ssh_wire.specs.declared.cursor.WireError.{WireError}
use Rattle.ssh_wire.specs.Stands.{BeginsString}
use Rattle.ssh_keys.specs.declared.kind.KeyKind.{KeyKind}
use Rattle.ssh_keys.specs.declared.signature.Fit.TheVariants.{Yes, Weak, No}
use Rattle.ssh_keys.specs.FirstFault.{IsCertificateName, IsFirstFault}
use Rattle.ssh_keys.specs.PublicKey.{IsKeyBlob, kind_of}
use Rattle.ssh_keys.specs.Signature.{Signature, IsSignatureBlob, fit_of}
use Rattle.ssh_keys.specs.SignatureFault.{IsSignatureFault}
use Rattle.ssh_certs.specs.Certificate.{IsCertificateBlob}
use Rattle.ssh_certs.specs.CertificateFault.{IsCertificateFault}
use Rattle.ssh_bodies.specs.declared.error.BodyError.{BodyError}
use Rattle.ssh_bodies.specs.Sshsig.{Sshsig, IsSshsigBlob}
use Rattle.ssh_bodies.specs.SshsigFault.{IsSshsigFault}
use Rattle.ssh_patterns.specs.declared.address.Address.{Address as AddressValue}
use Rattle.ssh_patterns.specs.AddressText.{IsAddressText}
use Rattle.ssh_offers.specs.declared.claim.AuditError.{AuditError}
use Rattle.ssh_offers.specs.declared.claim.AuditError.TheVariants.{Offer as BadOffer, Signature as BadSignature, WrongAlgorithm, WeakSignature, CertSignature, Address, Body}
use Rattle.ssh_offers.specs.declared.claim.OfferError.{OfferError}
use Rattle.ssh_offers.specs.declared.claim.OfferError.TheVariants as errors
use Rattle.ssh_offers.specs.Query.{HostCheck, Login}
use Rattle.ssh_offers.specs.Offer.{Offer, OfCertificate, certified, is_certified, plain, plain_key}
use Rattle.ssh_offers.specs.Algorithms.{other_algorithm, wanted_algorithm}
use Rattle.ssh_offers.specs.HostClaim.{HostClaim}
use Rattle.ssh_offers.specs.LoginClaim.{LoginClaim}

-- ---- the content of the blobs

-- the blob of a plain key or of a certificate
abbrev pub IsOfferBlob : Offer → List ℕ → Type 0
IsOfferBlob (plain key) blob = IsKeyBlob key blob
IsOfferBlob (certified c) blob = IsCertificateBlob c blob

-- a certificate's type string begins the blob (PROTOCOL.certkeys)
abbrev pub IsNamedCertificate : List ℕ → Type 0
IsNamedCertificate blob = BeginsString IsCertificateName blob

-- the first fault of a blob: of a certificate where its type string begins the blob, otherwise of a plain key
abbrev pub IsOfferFault : List ℕ → OfferError → Type 0
IsOfferFault blob (errors.Certificate e) = IsNamedCertificate blob × IsCertificateFault blob e
IsOfferFault blob (errors.Key e) = ¬ IsNamedCertificate blob × IsFirstFault blob e

-- the offer and the signature that the blobs spell
pub record AreRead (offered signed : List ℕ) (what : Offer) (s : Signature) : Type 0 where
  pub offer : IsOfferBlob what offered
  pub signature : IsSignatureBlob s signed

-- the kind of the plain key
abbrev pub kind_offered : Offer → KeyKind
kind_offered what = kind_of (plain_key what)

-- a certificate's own signature has an algorithm that fits its signer, and is not RSA with SHA-1 (RFC 8332)
abbrev pub SignerServes : Offer → Type 0
SignerServes what = OfCertificate (λ c. fit_of (kind_of c.signer) c.signature.algorithm ≡ Yes) what

-- ---- refusals that logins and hosts share

-- The offered blob has this first fault.
abbrev pub BadlyOffered : List ℕ → AuditError → Type 0
BadlyOffered offered e = (f : OfferError) × (e ≡ BadOffer f) × IsOfferFault offered f

-- The offer is read, and the signature's blob has this first fault.
abbrev pub BadlySigned : List ℕ → List ℕ → AuditError → Type 0
BadlySigned offered signed e =
    (what : Offer) × (f : WireError) × (e ≡ BadSignature f) × IsOfferBlob what offered × IsSignatureFault signed f

-- why an algorithm does not fit a key of this kind (this project's rule: RSA with SHA-1 is weak)
abbrev pub ServesNot : KeyKind → List ℕ → AuditError → Type 0
ServesNot kind algorithm e =
    ((fit_of kind algorithm ≡ Weak) × (e ≡ WeakSignature)) ⊎ ((fit_of kind algorithm ≡ No) × (e ≡ WrongAlgorithm))

-- ---- logins

-- Both are read, and the name asks for none of the key's algorithms: for RSA with SHA-1, or for any other.
abbrev pub BadlyNamed : Login → AuditError → Type 0
BadlyNamed q e =
    (what : Offer) × (s : Signature) × AreRead q.offered q.signature what s
    × (wanted_algorithm (kind_offered what) (is_certified what) q.algorithm ≡ Err e)

-- The name asks for one, and the signature has another: RSA with SHA-1, or any other.
abbrev pub BadlyPaired : Login → AuditError → Type 0
BadlyPaired q e =
    (what : Offer) × (s : Signature) × (wanted : List ℕ) × AreRead q.offered q.signature what s
    × (wanted_algorithm (kind_offered what) (is_certified what) q.algorithm ≡ Ok wanted)
    × (s.algorithm ≢ wanted) × (e ≡ other_algorithm (kind_offered what) s.algorithm)

-- both are read, and the signature has the algorithm that the name asks for
pub record IsPaired (q : Login) (what : Offer) (s : Signature) : Type 0 where
  pub read : AreRead q.offered q.signature what s
  pub asked : wanted_algorithm (kind_offered what) (is_certified what) q.algorithm ≡ Ok s.algorithm

-- All earlier tests pass, and the certificate's own signature does not fit its signer.
abbrev pub BadlyCertified : Login → AuditError → Type 0
BadlyCertified q e =
    (what : Offer) × (s : Signature) × IsPaired q what s × ¬ SignerServes what × (e ≡ CertSignature)

-- All earlier tests pass, and the text is not an address (RFC 4291 section 2.2).
abbrev pub BadlyAddressed : Login → AuditError → Type 0
BadlyAddressed q e =
    (what : Offer) × (s : Signature) × IsPaired q what s × SignerServes what
    × ((address : AddressValue) → ¬ IsAddressText address q.address) × (e ≡ Address)

-- the first refusal of a login
abbrev pub IsLoginRefusal : Login → AuditError → Type 0
IsLoginRefusal q e =
    BadlyOffered q.offered e
    ⊎ (BadlySigned q.offered q.signature e
    ⊎ (BadlyNamed q e
    ⊎ (BadlyPaired q e
    ⊎ (BadlyCertified q e
    ⊎ BadlyAddressed q e))))

-- each of the numbers is a byte
abbrev pub AreBytes : List ℕ → Type 0
AreBytes text = AllByRecursion (λ c. c < 256) text

-- the claim of a login that is not refused
pub record IsLoginClaim (q : Login) (claim : LoginClaim) : Type 0 where
  pub query : claim.query ≡ q
  pub paired : IsPaired q claim.offer claim.signature
  pub signer : SignerServes claim.offer
  pub address : IsAddressText claim.address q.address

-- ---- hosts

-- Both are read, and the signature's algorithm does not fit the key.
abbrev pub BadlyFitted : HostCheck → AuditError → Type 0
BadlyFitted q e =
    (what : Offer) × (s : Signature) × AreRead q.offered q.signature what s × ServesNot (kind_offered what) s.algorithm e

-- both are read, and the signature's algorithm fits the key
pub record IsFitted (q : HostCheck) (what : Offer) (s : Signature) : Type 0 where
  pub read : AreRead q.offered q.signature what s
  pub serves : fit_of (kind_offered what) s.algorithm ≡ Yes

-- All earlier tests pass, and the certificate's own signature does not fit its signer.
abbrev pub HostBadlyCertified : HostCheck → AuditError → Type 0
HostBadlyCertified q e =
    (what : Offer) × (s : Signature) × IsFitted q what s × ¬ SignerServes what × (e ≡ CertSignature)

-- the first refusal of a host's key
abbrev pub IsHostRefusal : HostCheck → AuditError → Type 0
IsHostRefusal q e =
    BadlyOffered q.offered e
    ⊎ (BadlySigned q.offered q.signature e
    ⊎ (BadlyFitted q e
    ⊎ HostBadlyCertified q e))

-- the claim of a host's key that is not refused
pub record IsHostClaim (q : HostCheck) (claim : HostClaim) : Type 0 where
  pub query : claim.query ≡ q
  pub fitted : (s : Signature) × IsFitted q claim.offer s
  pub signer : SignerServes claim.offer

-- ---- file signatures

-- The first refusal of a file signature: its body has a first fault; or it is read, and its algorithm does not fit its
-- key.
abbrev pub IsSshsigRefusal : List ℕ → AuditError → Type 0
IsSshsigRefusal body e =
    ((f : BodyError) × (e ≡ Body f) × IsSshsigFault body f)
    ⊎ ((v : Sshsig) × IsSshsigBlob v body × ServesNot (kind_of v.key) v.signature.algorithm e)
