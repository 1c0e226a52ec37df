-- An offer: a plain key, or a certificate for one.
use Rattle.std.specs.Prelude.{ℕ, Bool, true, false, List, Result, Ok, Err, if◌then◌else◌}
use Rattle.ssh_wire.specs.Position.{start}
use Rattle.ssh_wire.specs.Reading.{Read, string_at}
use Rattle.ssh_keys.specs.declared.key.KeyError.{KeyError}
use Rattle.ssh_keys.specs.declared.kind.NameClass.{NameClass}
use Rattle.ssh_keys.specs.declared.kind.NameClass.TheVariants as class
use Rattle.ssh_keys.specs.Names.{class_of}
use Rattle.ssh_keys.specs.PublicKey.{PublicKey, key_blob}
use Rattle.ssh_keys.specs.KeyReading.{key_in}
use Rattle.ssh_certs.specs.declared.reading.CertError.{CertError}
use Rattle.ssh_certs.specs.Certificate.{Certificate, certificate_blob}
use Rattle.ssh_certs.specs.CertificateReading.{certificate_in}
use Rattle.ssh_offers.specs.declared.claim.OfferError.{OfferError}
use Rattle.ssh_offers.specs.declared.claim.OfferError.TheVariants as errors

-- a plain key, or a certificate for one
pub data Offer : Type 0 where
  plain : PublicKey → Offer
  certified : Certificate → Offer

-- the plain key: the offered one, or the one in the certificate
abbrev pub plain_key : Offer → PublicKey
plain_key (plain key) = key
plain_key (certified c) = c.key

-- the key that an admitting line must have: the offered key itself, or the one that signed the certificate
abbrev pub subject : Offer → PublicKey
subject (plain key) = key
subject (certified c) = c.signer

abbrev pub is_certified : Offer → Bool
is_certified (plain key) = false
is_certified (certified c) = true

-- a property of the certificate, where one is offered
abbrev pub OfCertificate : (Certificate → Type 0) → Offer → Type 0
OfCertificate P (plain key) = Unit {0}
OfCertificate P (certified c) = P c

-- the blob of an offer
abbrev pub offer_blob : Offer → List ℕ
offer_blob (plain key) = key_blob key
offer_blob (certified c) = certificate_blob c

-- ---- reading

abbrev pub is_certificate_class : NameClass → Bool
is_certificate_class (class.Plain kind) = false
is_certificate_class (class.Certificate kind) = true
is_certificate_class class.Retired = false
is_certificate_class class.Other = false

abbrev pub is_certificate_name : Read (List ℕ) → Bool
is_certificate_name (Ok name) = is_certificate_class (class_of name.0)
is_certificate_name (Err e) = false

-- a blob whose type string is a certificate's (PROTOCOL.certkeys)
unfoldable pub is_certificate_blob : List ℕ → Bool
is_certificate_blob blob = is_certificate_name (string_at (start blob))

abbrev pub as_plain : Result PublicKey KeyError → Result Offer OfferError
as_plain (Ok key) = Ok (plain key)
as_plain (Err e) = Err (errors.Key e)

abbrev pub as_certified : Result Certificate CertError → Result Offer OfferError
as_certified (Ok c) = Ok (certified c)
as_certified (Err e) = Err (errors.Certificate e)

-- the offer that a blob spells, or its first fault
unfoldable pub offer_in : List ℕ → Result Offer OfferError
offer_in blob = if is_certificate_blob blob then as_certified (certificate_in blob) else as_plain (key_in blob)
