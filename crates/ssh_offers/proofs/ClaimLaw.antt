-- A claim is read exactly where the blobs spell it.
use Rattle.ssh_offers.proofs.Imports.{◌≡◌, ◌∙◌, ◌++◌, ◌<◌, ◌^◌, ℕ, Bool, true, false, List, [], ◌∷◌, Result, Ok, Err, length, ap, refl, arith, concat, bytes_eq-Decides, WireError, string_again, string, KeyError, KeyKind, Rsa, P256, P384, P521, Ed25519, SkP256, SkEd25519, key_in, certificate_name_of, class_of, key_name_of, IsKeyBlob, PublicKey, fields_of, kind_of, IsSignatureBlob, Signature, fit_of, signature_blob, signature_in, key_only, key_refused, signature_only, signature_refused, CertError, Certificate, IsCertificateBlob, rest_row, certificate_in, certificate_only, certificate_refused, address-read, fit_test, pairing_test, signer_test, IsHostClaim, IsLoginClaim, IsNamedCertificate, IsOfferBlob, SignerServes, kind_offered, HostClaim, fitting_test, LoginClaim, address_test, Offer, certified, is_certificate_class, is_certificate_name, plain, HostCheck, Login}
use Rattle.ssh_keys.specs.Names.{certificate_kind, plain_kind}
use Rattle.ssh_keys.specs.PublicKey.{key_blob}
use Rattle.ssh_certs.specs.Certificate.{certificate_blob}
use Rattle.ssh_offers.specs.HostClaim.{host_claim}
use Rattle.ssh_offers.specs.LoginClaim.{login_claim}
use Rattle.ssh_offers.specs.Offer.{is_certificate_blob, offer_in}
use Rattle.ssh_offers.proofs.NamedLemmas.{named-certificate}

-- ---- the blobs

key-read : (key : PublicKey) (blob : List ℕ) → IsKeyBlob key blob → key_in blob ≡ Ok key
key-read key blob is = go (key_in blob) refl
  where
    go : (r : Result PublicKey KeyError) → key_in blob ≡ r → r ≡ Ok key
    go (Ok found) e = ap (λ (k : PublicKey). Ok k) (key_only blob found key e is)
    go (Err f) e = absurd (key_refused blob f key e is)

certificate-read : (c : Certificate) (blob : List ℕ) → IsCertificateBlob c blob → certificate_in blob ≡ Ok c
certificate-read c blob is = go (certificate_in blob) refl
  where
    go : (r : Result Certificate CertError) → certificate_in blob ≡ r → r ≡ Ok c
    go (Ok found) e = ap (λ (k : Certificate). Ok k) (certificate_only blob found c e is)
    go (Err f) e = absurd (certificate_refused blob f c e is)

signature-read : (s : Signature) (blob : List ℕ) → IsSignatureBlob s blob → signature_in blob ≡ Ok s
signature-read s blob is = go (signature_in blob) refl
  where
    go : (r : Result Signature WireError) → signature_in blob ≡ r → r ≡ Ok s
    go (Ok found) e = ap (λ (k : Signature). Ok k) (signature_only blob found s e is)
    go (Err f) e = absurd (signature_refused blob f s e is)

-- a plain key's type name is no certificate's
plain-class : (kind : KeyKind) → is_certificate_class (class_of (key_name_of kind)) ≡ false
unfolding plain_kind certificate_kind
plain-class Rsa = refl
plain-class P256 = refl
plain-class P384 = refl
plain-class P521 = refl
plain-class Ed25519 = refl
plain-class SkP256 = refl
plain-class SkEd25519 = refl

plain-short : (kind : KeyKind) → length (key_name_of kind) < 2 ^ 32
plain-short Rsa = omega arith
plain-short P256 = omega arith
plain-short P384 = omega arith
plain-short P521 = omega arith
plain-short Ed25519 = omega arith
plain-short SkP256 = omega arith
plain-short SkEd25519 = omega arith

key-unnamed : (key : PublicKey) → is_certificate_blob (key_blob key) ≡ false
unfolding is_certificate_blob key_blob
key-unnamed key =
    ap is_certificate_name (string_again (key_name_of (kind_of key)) 0 (concat (fields_of key)) (plain-short (kind_of key))) ∙ plain-class (kind_of key)

certificate-begins : (c : Certificate) → IsNamedCertificate (certificate_blob c)
unfolding certificate_blob
certificate-begins c = record {
  text = certificate_name_of (kind_of c.key);
  is = (kind_of c.key, refl);
  more = concat (string c.nonce ∷ (fields_of c.key ++ rest_row c) ++ string (signature_blob c.signature) ∷ []);
  begins = refl;
}

certificate-named : (c : Certificate) → is_certificate_blob (certificate_blob c) ≡ true
certificate-named c = go (is_certificate_blob (certificate_blob c)) refl
  where
    go : (b : Bool) → is_certificate_blob (certificate_blob c) ≡ b → b ≡ true
    go true e = refl
    go false e = absurd (named-certificate (certificate_blob c) e (certificate-begins c))

offer-read : (what : Offer) (blob : List ℕ) → IsOfferBlob what blob → offer_in blob ≡ Ok what
unfolding offer_in
offer-read (plain key) blob is =
    let unnamed : is_certificate_blob blob ≡ false = ap is_certificate_blob is.spelled ∙ key-unnamed key in
    rw (unnamed, key-read key blob is) refl
offer-read (certified c) blob is =
    let named : is_certificate_blob blob ≡ true = ap is_certificate_blob is.spelled ∙ certificate-named c in
    rw (named, certificate-read c blob is) refl

signer-passes : (what : Offer) → SignerServes what → signer_test what ≡ Ok tt
signer-passes (plain key) h = refl
signer-passes (certified c) h = ap fit_test h

-- ---- the claims

pub login-claimed : (q : Login) (claim : LoginClaim) → IsLoginClaim q claim → login_claim q ≡ Ok claim
unfolding login_claim
login-claimed q claim is =
    let read = is.paired.read in
    let same : pairing_test (kind_offered claim.offer) claim.signature.algorithm claim.signature.algorithm ≡ Ok tt =
    rw ((bytes_eq-Decides claim.signature.algorithm claim.signature.algorithm).1 refl) refl in
    let asked = is.paired.asked in
    let signer = signer-passes claim.offer is.signer in
    let address = ap address_test (address-read claim.address q.address is.address) in
    rw (offer-read claim.offer q.offered read.offer, signature-read claim.signature q.signature read.signature, asked, same, signer, address, is.query) refl

pub host-claimed : (q : HostCheck) (claim : HostClaim) → IsHostClaim q claim → host_claim q ≡ Ok claim
unfolding host_claim
host-claimed q claim is =
    let s = is.fitted.0 in
    let read = is.fitted.1.read in
    let fits : fitting_test (fit_of (kind_offered claim.offer) s.algorithm) ≡ Ok tt = ap fitting_test is.fitted.1.serves in
    let signer = signer-passes claim.offer is.signer in
    rw (offer-read claim.offer q.offered read.offer, signature-read s q.signature read.signature, fits, signer, is.query) refl
