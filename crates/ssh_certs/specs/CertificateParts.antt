-- A certificate's fields in three parts: which key is certified, on which terms, and who signed. A law states that reading part by part is reading field by field (proofs/PartLaws.antt).
use Rattle.std.specs.Prelude.{ℕ, List, Result, Ok}
use Rattle.std.specs.Int.{w32, w64}
use Rattle.ssh_wire.specs.Position.{Position}
use Rattle.ssh_wire.specs.Reading.{◌>>=◌, number_at, string_at, end_at}
use Rattle.ssh_keys.specs.Names.{class_of}
use Rattle.ssh_keys.specs.PublicKey.{PublicKey}
use Rattle.ssh_keys.specs.KeyReading.{fields_at}
use Rattle.ssh_keys.specs.View.{public_key}
use Rattle.ssh_certs.specs.declared.reading.CertError.{CertError}
use Rattle.ssh_certs.specs.declared.reading.CertError.TheVariants as errors
use Rattle.ssh_certs.specs.declared.fields.Certified.{Certified}
use Rattle.ssh_certs.specs.declared.fields.Terms.{Terms}
use Rattle.ssh_certs.specs.Certificate.{Certificate, CertOption}
use Rattle.ssh_certs.specs.CertificateReading.{ReadCert, as_fault, as_cert_error, certified_kind_from, names_at, options_at, signer_at, cert_signature_at}
use Rattle.ssh_certs.specs.Packed.{names_in_packed, options_in_packed}

-- the fields up to the key id
pub record CertifiedFields : Type 0 where
  pub nonce : List ℕ
  pub key : PublicKey
  pub serial : ℕ
  pub kind_number : ℕ
  pub key_id : List ℕ

-- the fields from the principals to the reserved bytes: for whom, when and with which options
pub record CertificateTerms : Type 0 where
  pub principals : List (List ℕ)
  pub after : ℕ
  pub before : ℕ
  pub critical : List CertOption
  pub extensions : List CertOption
  pub reserved : List ℕ

unfoldable pub certified_at : Position → ReadCert CertifiedFields
certified_at at = do
  name ← as_cert_error (string_at at)
  kind ← certified_kind_from (class_of name.0)
  nonce ← as_cert_error (string_at name.1)
  key ← as_fault errors.Key (fields_at kind nonce.1)
  serial ← as_cert_error (number_at w64 key.1)
  kind_number ← as_cert_error (number_at w32 serial.1)
  key_id ← as_cert_error (string_at kind_number.1)
  Ok (record { nonce = nonce.0; key = key.0; serial = serial.0; kind_number = kind_number.0; key_id = key_id.0 }, key_id.1)

unfoldable pub terms_at : Position → ReadCert CertificateTerms
terms_at at = do
  principals ← names_at at
  after ← as_cert_error (number_at w64 principals.1)
  before ← as_cert_error (number_at w64 after.1)
  critical ← options_at before.1
  extensions ← options_at critical.1
  reserved ← as_cert_error (string_at extensions.1)
  Ok (record { principals = principals.0; after = after.0; before = before.0; critical = critical.0; extensions = extensions.0; reserved = reserved.0 }, reserved.1)

unfoldable pub certificate_by_parts : Position → Result Certificate CertError
certificate_by_parts at = do
  certified ← certified_at at
  terms ← terms_at certified.1
  signer ← signer_at terms.1
  signature ← cert_signature_at signer.1
  _ ← as_cert_error (end_at signature.1)
  Ok (record {
    nonce = (certified.0).nonce;
    key = (certified.0).key;
    serial = (certified.0).serial;
    kind_number = (certified.0).kind_number;
    key_id = (certified.0).key_id;
    principals = (terms.0).principals;
    after = (terms.0).after;
    before = (terms.0).before;
    critical = (terms.0).critical;
    extensions = (terms.0).extensions;
    reserved = (terms.0).reserved;
    signer = signer.0;
    signature = signature.0;
  })

-- the values of parts in memory
abbrev pub certified_from : Certified → CertifiedFields
certified_from v = record { nonce = v.nonce.now; key = public_key v.key; serial = v.serial; kind_number = v.kind_number; key_id = v.key_id.now }

abbrev pub terms_from : Terms → CertificateTerms
terms_from v = record {
  principals = names_in_packed v.principals.now;
  after = v.after;
  before = v.before;
  critical = options_in_packed v.critical.now;
  extensions = options_in_packed v.extensions.now;
  reserved = v.reserved.now;
}
