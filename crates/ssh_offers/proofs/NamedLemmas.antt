-- A blob is read as a certificate exactly where a certificate's type string begins it.
use Rattle.ssh_offers.proofs.Imports.{◌≡◌, ◌∙◌, ◌++◌, ◌<◌, ◌^◌, ℕ, Bool, true, false, List, Option, Some, None, Ok, Err, length, ap, sym, arith, refl, codes, bytes_eq, bytes_eq-Decides, start, Read, string_at, IsBytes, string_again, string_takes, string, KeyKind, Rsa, P256, P384, P521, Ed25519, SkP256, SkEd25519, IsCertificateName, certificate_name_of, class_by, class_of, kinds, find_some, IsNamedCertificate, is_certificate_class, is_certificate_name}
use Rattle.ssh_keys.specs.Names.{certificate_kind, plain_kind}
use Rattle.ssh_offers.specs.Offer.{is_certificate_blob}

-- ---- a name whose class is a certificate's is one of theirs

by_class : (a b : Option KeyKind) (retired : Bool) → is_certificate_class (class_by a b retired) ≡ true → (kind : KeyKind) × (b ≡ Some kind)
by_class (Some kind) b retired h = absurd cc
by_class None (Some kind) retired h = (kind, refl)
by_class None None true h = absurd cc
by_class None None false h = absurd cc

class-named : (name : List ℕ) → is_certificate_class (class_of name) ≡ true → IsCertificateName name
unfolding certificate_kind
class-named name h =
    let found = by_class (plain_kind name) (certificate_kind name) (bytes_eq name (codes "ssh-dss")) h in
    (found.0, sym ((bytes_eq-Decides (certificate_name_of found.0) name).0 (find_some (λ k. bytes_eq (certificate_name_of k) name) kinds found.0 found.1)))

named-class : (kind : KeyKind) → is_certificate_class (class_of (certificate_name_of kind)) ≡ true
unfolding plain_kind certificate_kind
named-class Rsa = refl
named-class P256 = refl
named-class P384 = refl
named-class P521 = refl
named-class Ed25519 = refl
named-class SkP256 = refl
named-class SkEd25519 = refl

name-short : (kind : KeyKind) → length (certificate_name_of kind) < 2 ^ 32
name-short Rsa = omega arith
name-short P256 = omega arith
name-short P384 = omega arith
name-short P521 = omega arith
name-short Ed25519 = omega arith
name-short SkP256 = omega arith
name-short SkEd25519 = omega arith

-- ---- the blob

read-named : (blob : List ℕ) → IsBytes blob → (r : Read (List ℕ)) → string_at (start blob) ≡ r → is_certificate_name r ≡ true → IsNamedCertificate blob
read-named blob fits (Ok name) read h =
    let took = string_takes (start blob) name.0 name.1 fits read in
    record { text = name.0; is = class-named name.0 h; more = (name.1).rest; begins = took.0.parts }
read-named blob fits (Err e) read h = absurd cc

pub certificate-named : (blob : List ℕ) → IsBytes blob → is_certificate_blob blob ≡ true → IsNamedCertificate blob
unfolding is_certificate_blob
certificate-named blob fits h = read-named blob fits (string_at (start blob)) refl h

pub named-certificate : (blob : List ℕ) → is_certificate_blob blob ≡ false → IsNamedCertificate blob → ⊥
unfolding is_certificate_blob
named-certificate blob h named =
    let kind = named.is.0 in
    let begins : blob ≡ string (certificate_name_of kind) ++ named.more = named.begins ∙ ap (λ (t : List ℕ). string t ++ named.more) named.is.1 in
    let read = ap (λ (b : List ℕ). string_at (start b)) begins ∙ string_again (certificate_name_of kind) 0 named.more (name-short kind) in
    let is : is_certificate_name (string_at (start blob)) ≡ true = ap is_certificate_name read ∙ named-class kind in
    let clash : true ≡ false = sym is ∙ h in
    cc
