-- Reading a certificate field by field, with the first error.
use Rattle.std.specs.Prelude.{ℕ, zero, suc, ◌+◌, List, [], ◌∷◌, length, Result, Ok, Err, nat_lt, if◌then◌else◌}
use Rattle.std.specs.Int.{w32, w64}
use Rattle.ssh_wire.specs.declared.cursor.WireError.{WireError}
use Rattle.ssh_wire.specs.Position.{Position, start}
use Rattle.ssh_wire.specs.Reading.{◌>>=◌, Read, number_at, string_at, end_at}
use Rattle.ssh_keys.specs.declared.kind.KeyKind.{KeyKind}
use Rattle.ssh_keys.specs.declared.kind.NameClass.{NameClass}
use Rattle.ssh_keys.specs.declared.kind.NameClass.TheVariants.{Plain, Certificate as CertificateOf, Retired, Other}
use Rattle.ssh_keys.specs.declared.key.KeyError.{KeyError}
use Rattle.ssh_keys.specs.declared.key.KeyError.TheVariants as key_errors
use Rattle.ssh_keys.specs.Names.{class_of}
use Rattle.ssh_keys.specs.PublicKey.{PublicKey, longest}
use Rattle.ssh_keys.specs.KeyReading.{fields_at, key_in}
use Rattle.ssh_keys.specs.Signature.{Signature, signature_in}
use Rattle.ssh_certs.specs.declared.reading.CertError.{CertError}
use Rattle.ssh_certs.specs.declared.reading.CertError.TheVariants as errors
use Rattle.ssh_certs.specs.Certificate.{Certificate, CertOption}

-- the same result, with its error as an error of another type
abbrev pub as_fault : {A E F : Type 0} → (E → F) → Result A E → Result A F
as_fault f (Ok x) = Ok x
as_fault f (Err e) = Err (f e)

-- the kind of key whose certificates have this type name
abbrev pub certified_kind_from : NameClass → Result KeyKind CertError
certified_kind_from (CertificateOf kind) = Ok kind
certified_kind_from (Plain kind) = Err errors.UnknownType
certified_kind_from Retired = Err errors.UnknownType
certified_kind_from Other = Err errors.UnknownType

-- Items one after the other to the end of the bytes. (Each item takes at least one byte, so as many steps as there are bytes suffice.)
unfoldable pub items_within : {A : Type 0} → (Position → Read A) → ℕ → Position → Result (List A) WireError
items_within item zero at = Ok []
items_within item (suc turns) at = elim at.rest [
  | [] ↦ Ok []
  | b ∷ rest ↦ (item at >>= λ first. items_within item turns first.1 >>= λ others. Ok (first.0 ∷ others))
]

-- the items of a string; an error's place counts from the string's first byte
abbrev pub items_in : {A : Type 0} → (Position → Read A) → List ℕ → Result (List A) WireError
items_in item text = items_within item (length text) (start text)

-- an option's name and its data
abbrev pub cert_option_at : Position → Read CertOption
cert_option_at at = do
  name ← string_at at
  value ← string_at name.1
  Ok (record { name = name.0; value = value.0 }, value.1)

-- the result of reading a field of a certificate
abbrev pub ReadCert : Type 0 → Type 0
ReadCert A = Result (A × Position) CertError

-- an error of a value is one of the certificate
abbrev pub as_cert_error : {A : Type 0} → Result A WireError → Result A CertError
as_cert_error r = as_fault errors.Wire r

-- a packed list; a string in it that passes the end is reported by its place in the whole blob
unfoldable pub packed_at : {A : Type 0} → (Position → Read A) → (ℕ → CertError) → Position → ReadCert (List A)
packed_at item list_fault at = do
  text ← as_cert_error (string_at at)
  items ← as_fault (λ e. list_fault (at.place + 4 + e.place)) (items_in item text.0)
  Ok (items, text.1)

-- the principals
abbrev pub names_at : Position → ReadCert (List (List ℕ))
names_at at = packed_at string_at errors.Principals at

-- the critical options, or the extensions
abbrev pub options_at : Position → ReadCert (List CertOption)
options_at at = packed_at cert_option_at errors.Options at

-- the error of a signature key: a certificate as signer has an error of its own
abbrev pub signer_fault : KeyError → CertError
signer_fault key_errors.IsCertificate = errors.ChainedSigner
signer_fault e = errors.Signer e

-- the signature key: the blob of a plain key, whose places count from its own first byte
unfoldable pub signer_at : Position → ReadCert PublicKey
signer_at at = do
  blob ← as_cert_error (string_at at)
  key ← as_fault signer_fault (key_in blob.0)
  Ok (key, blob.1)

-- the signature, whose places count from its own first byte
unfoldable pub cert_signature_at : Position → ReadCert Signature
cert_signature_at at = do
  blob ← as_cert_error (string_at at)
  signature ← as_fault errors.Signature (signature_in blob.0)
  Ok (signature, blob.1)

-- the certificate at the front of a blob that is within the limit
unfoldable pub certificate_at : Position → Result Certificate CertError
certificate_at at = do
  name ← as_cert_error (string_at at)
  kind ← certified_kind_from (class_of name.0)
  nonce ← as_cert_error (string_at name.1)
  key ← as_fault errors.Key (fields_at kind nonce.1)
  serial ← as_cert_error (number_at w64 key.1)
  kind_number ← as_cert_error (number_at w32 serial.1)
  key_id ← as_cert_error (string_at kind_number.1)
  principals ← names_at key_id.1
  after ← as_cert_error (number_at w64 principals.1)
  before ← as_cert_error (number_at w64 after.1)
  critical ← options_at before.1
  extensions ← options_at critical.1
  reserved ← as_cert_error (string_at extensions.1)
  signer ← signer_at reserved.1
  signature ← cert_signature_at signer.1
  _ ← as_cert_error (end_at signature.1)
  Ok (record {
    nonce = nonce.0;
    key = key.0;
    serial = serial.0;
    kind_number = kind_number.0;
    key_id = key_id.0;
    principals = principals.0;
    after = after.0;
    before = before.0;
    critical = critical.0;
    extensions = extensions.0;
    reserved = reserved.0;
    signer = signer.0;
    signature = signature.0;
  })

-- the certificate of a blob, or the first error
unfoldable pub certificate_in : List ℕ → Result Certificate CertError
certificate_in bytes = if nat_lt longest (length bytes) then Err errors.TooLong else certificate_at (start bytes)
