-- The first error of bytes that are not a key's blob, stated by its fields alone.
use Rattle.std.specs.Prelude.{◌≡◌, ◌≢◌, ℕ, ◌+◌, ◌^◌, ◌<◌, ◌≤◌, List, [], ◌∷◌, ◌++◌, length, codes, IsTrue, ◌⊎◌}
use Rattle.ssh_wire.specs.declared.cursor.WireCause.{WireCause}
use Rattle.ssh_wire.specs.declared.cursor.WireCause.TheVariants.{Short, Trailing}
use Rattle.ssh_wire.specs.Rows.{GoesOnAt}
use Rattle.ssh_wire.specs.Spelling.{string}
use Rattle.ssh_wire.specs.Stands.{NoString, BeginsString}
use Rattle.ssh_keys.specs.declared.key.KeyError.{KeyError}
use Rattle.ssh_keys.specs.declared.key.KeyError.TheVariants.{Wire, UnknownType, RetiredType, IsCertificate, Curve, Point, Length, TooLong}
use Rattle.ssh_keys.specs.declared.kind.KeyKind.{KeyKind}
use Rattle.ssh_keys.specs.FieldFaults.{IsFieldFault}
use Rattle.ssh_keys.specs.Names.{key_name_of, certificate_name_of}
use Rattle.ssh_keys.specs.PublicKey.{PublicKey, fields_of, key_blob_row, is_in_range, longest}

-- each field has fewer than 2^32 bytes after its length
abbrev pub AreShort : List (List ℕ) → Type 0
AreShort [] = Unit {0}
AreShort (field ∷ fields) = (length field < 2 ^ 32 + 4) × AreShort fields

-- a key whose fields have spellings, in a blob of any length
pub record IsSpelled (key : PublicKey) : Type 0 where
  pub in_range : IsTrue (is_in_range key)
  pub short : AreShort (fields_of key)

-- a type name that is not a key's, not a certificate's, and not `ssh-dss`
pub record IsUnknownName (name : List ℕ) : Type 0 where
  pub plain : (kind : KeyKind) → name ≢ key_name_of kind
  pub certificate : (kind : KeyKind) → name ≢ certificate_name_of kind
  pub retired : name ≢ codes "ssh-dss"

-- a certificate's type name
abbrev pub IsCertificateName : List ℕ → Type 0
IsCertificateName name = (kind : KeyKind) × (name ≡ certificate_name_of kind)

-- the type name of a kind is complete, and a field after it is wrong
pub record InFields (bytes : List ℕ) (e : KeyError) : Type 0 where
  pub kind : KeyKind
  pub fields : List ℕ
  pub begins : bytes ≡ string (key_name_of kind) ++ fields
  pub fault : IsFieldFault kind (length (string (key_name_of kind))) fields e

-- there are bytes after all fields of a key; or the bytes do not begin with a string; or a field after the type name is wrong
abbrev pub IsWireFault : List ℕ → ℕ → WireCause → Type 0
IsWireFault bytes place Trailing = GoesOnAt key_blob_row IsSpelled bytes place
IsWireFault bytes place Short = ((place ≡ 0) × NoString bytes) ⊎ InFields bytes (Wire (record { place = place; cause = Short }))
IsWireFault bytes place cause = InFields bytes (Wire (record { place = place; cause = cause }))

-- one statement for each error of bytes that are within the limit
abbrev pub IsFaultWithin : List ℕ → KeyError → Type 0
IsFaultWithin bytes (Wire e) = IsWireFault bytes e.place e.cause
IsFaultWithin bytes UnknownType = BeginsString IsUnknownName bytes
IsFaultWithin bytes RetiredType = BeginsString (λ name. name ≡ codes "ssh-dss") bytes
IsFaultWithin bytes IsCertificate = BeginsString IsCertificateName bytes
IsFaultWithin bytes Curve = InFields bytes Curve
IsFaultWithin bytes Point = InFields bytes Point
IsFaultWithin bytes Length = InFields bytes Length
IsFaultWithin bytes TooLong = ⊥

-- The first error: the bytes pass the limit; or they are within it, each field before one is complete and in its range, and that one is not; or all fields are complete, and there are more bytes at the place.
abbrev pub IsFirstFault : List ℕ → KeyError → Type 0
IsFirstFault bytes TooLong = longest < length bytes
IsFirstFault bytes e = (length bytes ≤ longest) × IsFaultWithin bytes e
