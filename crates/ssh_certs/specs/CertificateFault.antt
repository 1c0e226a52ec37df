-- The first error of bytes that are not a certificate's blob, stated by its fields alone (PROTOCOL.certkeys).
use Rattle.std.specs.Prelude.{◌≡◌, ◌≢◌, ℕ, ◌+◌, ◌^◌, ◌<◌, ◌≤◌, List, [], ◌∷◌, ◌++◌, length, take, IsTrue, ◌⊎◌}
use Rattle.std.specs.List.{concat}
use Rattle.ssh_wire.specs.declared.cursor.WireCause.{WireCause}
use Rattle.ssh_wire.specs.declared.cursor.WireCause.TheVariants.{Short, Trailing}
use Rattle.ssh_wire.specs.Spelling.{string}
use Rattle.ssh_wire.specs.Stands.{NoNumber, NoLongNumber, NoString, BeginsString}
use Rattle.ssh_keys.specs.declared.key.KeyError.{KeyError}
use Rattle.ssh_keys.specs.declared.key.KeyError.TheVariants as key_errors
use Rattle.ssh_keys.specs.declared.kind.KeyKind.{KeyKind}
use Rattle.ssh_keys.specs.FieldFaults.{IsFieldFault}
use Rattle.ssh_keys.specs.FirstFault.{IsFirstFault}
use Rattle.ssh_keys.specs.Names.{certificate_name_of}
use Rattle.ssh_keys.specs.PublicKey.{kind_of, fields_of, is_in_range, longest, IsKey}
use Rattle.ssh_keys.specs.Signature.{signature_blob, IsSignature}
use Rattle.ssh_keys.specs.SignatureFault.{IsSignatureFault}
use Rattle.ssh_certs.specs.declared.reading.CertError.{CertError}
use Rattle.ssh_certs.specs.declared.reading.CertError.TheVariants as errors
use Rattle.ssh_certs.specs.Certificate.{Certificate, CertOption, packed_names, packed_options, rest_row, certificate_blob}

-- the type of a field: a number of eight bytes, one of four, any string, packed names, packed options, a plain key, a signature
pub data CertificateFieldSort : Type 0 where
  long : CertificateFieldSort
  short : CertificateFieldSort
  text : CertificateFieldSort
  names : CertificateFieldSort
  options : CertificateFieldSort
  signer : CertificateFieldSort
  signature : CertificateFieldSort

-- the types of the fields after the public key: serial, kind, key id, principals, after, before, critical options, extensions, reserved, signature key, signature
abbrev pub sorts : List CertificateFieldSort
sorts = long ∷ short ∷ text ∷ names ∷ long ∷ long ∷ options ∷ options ∷ text ∷ signer ∷ signature ∷ []

-- the type name, the nonce and the fields of the public key, one after the other
abbrev pub certificate_front : Certificate → List ℕ
certificate_front c = string (certificate_name_of (kind_of c.key)) ++ (string c.nonce ++ concat (fields_of c.key))

-- the fields after the public key
abbrev pub tail_of : Certificate → List (List ℕ)
tail_of c = rest_row c ++ string (signature_blob c.signature) ∷ []

-- each field in its range, in a blob of any length
pub record IsInRange (c : Certificate) : Type 0 where
  pub key : IsTrue (is_in_range c.key)
  pub serial : c.serial < 2 ^ 64
  pub kind_number : c.kind_number < 2 ^ 32
  pub after : c.after < 2 ^ 64
  pub before : c.before < 2 ^ 64
  pub signer : IsKey c.signer
  pub signature : IsSignature c.signature

-- the rest does not begin with a value of this type
abbrev pub IsCut : CertificateFieldSort → List ℕ → Type 0
IsCut long rest = NoLongNumber rest
IsCut short rest = NoNumber rest
IsCut field rest = NoString rest

-- packed names are complete up to this place, and the next one passes the end
pub record NameIsCut (inner : ℕ) (packed : List ℕ) : Type 0 where
  pub front : List (List ℕ)
  pub rest : List ℕ
  pub parts : packed ≡ packed_names front ++ rest
  pub more : rest ≢ []
  pub place : inner ≡ length (packed_names front)
  pub cut : NoString rest

-- packed options are complete up to some place, and there the name of the next one passes the end, or its data after its name
pub record OptionIsCut (inner : ℕ) (packed : List ℕ) : Type 0 where
  pub front : List CertOption
  pub rest : List ℕ
  pub parts : packed ≡ packed_options front ++ rest
  pub more : rest ≢ []
  pub cut : ((inner ≡ length (packed_options front)) × NoString rest)
      ⊎ ((name : List ℕ) × (more : List ℕ) × (rest ≡ string name ++ more) × (inner ≡ length (packed_options front) + length (string name)) × NoString more)

-- The error of a field of this type at this place. In packed lists the place is that of the list's wrong item; places in the signature key and in the signature count from their own first byte.
abbrev pub IsWrongField : CertError → CertificateFieldSort → List ℕ → ℕ → Type 0
IsWrongField (errors.Wire e) field rest place = (e.place ≡ place) × (e.cause ≡ Short) × IsCut field rest
IsWrongField (errors.Principals p) names rest place = (inner : ℕ) × (p ≡ place + 4 + inner) × BeginsString (NameIsCut inner) rest
IsWrongField (errors.Options p) options rest place = (inner : ℕ) × (p ≡ place + 4 + inner) × BeginsString (OptionIsCut inner) rest
IsWrongField (errors.Signer e) signer rest place = (e ≢ key_errors.IsCertificate) × BeginsString (λ blob. IsFirstFault blob e) rest
IsWrongField errors.ChainedSigner signer rest place = BeginsString (λ blob. IsFirstFault blob key_errors.IsCertificate) rest
IsWrongField (errors.Signature e) signature rest place = BeginsString (λ blob. IsSignatureFault blob e) rest
IsWrongField e field rest place = ⊥

-- the fields before one after the public key are complete, and this one is wrong
pub record InTail (bytes : List ℕ) (e : CertError) : Type 0 where
  pub value : Certificate
  pub fits : IsInRange value
  pub before : List CertificateFieldSort
  pub sort : CertificateFieldSort
  pub after : List CertificateFieldSort
  pub row : sorts ≡ before ++ sort ∷ after
  pub rest : List ℕ
  pub begins : bytes ≡ certificate_front value ++ (concat (take (length before) (tail_of value)) ++ rest)
  pub wrong : IsWrongField e sort rest (length (certificate_front value) + length (concat (take (length before) (tail_of value))))

-- the type name and the nonce are complete, and a public field is wrong; places count in the whole blob
pub record InKey (bytes : List ℕ) (e : KeyError) : Type 0 where
  pub kind : KeyKind
  pub nonce : List ℕ
  pub fields : List ℕ
  pub begins : bytes ≡ string (certificate_name_of kind) ++ (string nonce ++ fields)
  pub fault : IsFieldFault kind (length (string (certificate_name_of kind)) + length (string nonce)) fields e

-- the type name or the nonce passes the end
abbrev pub HeadIsCut : List ℕ → ℕ → Type 0
HeadIsCut bytes place = ((place ≡ 0) × NoString bytes)
    ⊎ ((kind : KeyKind) × (rest : List ℕ) × (bytes ≡ string (certificate_name_of kind) ++ rest) × (place ≡ length (string (certificate_name_of kind))) × NoString rest)

-- all fields of some certificate are complete, and there are more bytes
pub record IsLonger (bytes : List ℕ) (place : ℕ) : Type 0 where
  pub value : Certificate
  pub fits : IsInRange value
  pub rest : List ℕ
  pub more : rest ≢ []
  pub begins : bytes ≡ certificate_blob value ++ rest
  pub at : place ≡ length (certificate_blob value)

-- a type name that is not a certificate's
abbrev pub IsOtherName : List ℕ → Type 0
IsOtherName name = (kind : KeyKind) → name ≢ certificate_name_of kind

abbrev pub IsCertificateWireFault : List ℕ → ℕ → WireCause → Type 0
IsCertificateWireFault bytes place Trailing = IsLonger bytes place
IsCertificateWireFault bytes place Short = HeadIsCut bytes place ⊎ InTail bytes (errors.Wire (record { place = place; cause = Short }))
IsCertificateWireFault bytes place cause = ⊥

-- one statement for each error of bytes that are within the limit
abbrev pub IsCertificateFaultWithin : List ℕ → CertError → Type 0
IsCertificateFaultWithin bytes (errors.Wire e) = IsCertificateWireFault bytes e.place e.cause
IsCertificateFaultWithin bytes (errors.Key e) = InKey bytes e
IsCertificateFaultWithin bytes errors.UnknownType = BeginsString IsOtherName bytes
IsCertificateFaultWithin bytes (errors.Signer e) = InTail bytes (errors.Signer e)
IsCertificateFaultWithin bytes errors.ChainedSigner = InTail bytes errors.ChainedSigner
IsCertificateFaultWithin bytes (errors.Principals p) = InTail bytes (errors.Principals p)
IsCertificateFaultWithin bytes (errors.Options p) = InTail bytes (errors.Options p)
IsCertificateFaultWithin bytes (errors.Signature e) = InTail bytes (errors.Signature e)
IsCertificateFaultWithin bytes errors.TooLong = ⊥

-- The first error: the bytes pass the limit; or they are within it, each field before one is complete and in its range, and that one is not; or all fields are complete, and there are more bytes at the place.
abbrev pub IsCertificateFault : List ℕ → CertError → Type 0
IsCertificateFault bytes errors.TooLong = longest < length bytes
IsCertificateFault bytes e = (length bytes ≤ longest) × IsCertificateFaultWithin bytes e
