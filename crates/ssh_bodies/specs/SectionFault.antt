-- The first error inside a private section, stated by its fields alone. Places count from the section's first byte.
use Rattle.std.specs.Prelude.{◌≡◌, ◌≢◌, ℕ, ◌+◌, ◌≤◌, ◌<◌, ◌^◌, List, [], ◌∷◌, ◌++◌, length, IsTrue, ◌⊎◌}
use Rattle.std.specs.List.{concat}
use Rattle.ssh_wire.specs.declared.cursor.WireCause.{WireCause}
use Rattle.ssh_wire.specs.declared.cursor.WireCause.TheVariants.{Short}
use Rattle.ssh_wire.specs.Spelling.{string, uint32, mpint}
use Rattle.ssh_wire.specs.Stands.{Stands, NoNumber, NoString}
use Rattle.ssh_keys.specs.declared.kind.KeyKind.{KeyKind}
use Rattle.ssh_keys.specs.declared.kind.KeyKind.TheVariants.{Rsa, P256, P384, P521, Ed25519, SkP256, SkEd25519}
use Rattle.ssh_keys.specs.FieldFaults as keys
use Rattle.ssh_keys.specs.Names.{key_name_of}
use Rattle.ssh_keys.specs.PublicKey.{PublicKey, kind_of}
use Rattle.ssh_bodies.specs.declared.error.BodyError.{BodyError}
use Rattle.ssh_bodies.specs.declared.error.BodyError.TheVariants.{CheckMismatch, Padding, PublicMismatch, Wire}
use Rattle.ssh_bodies.specs.PrivateKey.{PrivateKey, PrivateBody, public_of, private_fields, is_private_in_range, padding}

-- ---- the fields that every kind has

-- the fields of a section before its padding (PROTOCOL.key); all fields of the private key are one here
abbrev pub section_row : PrivateBody → List (List ℕ)
section_row v = uint32 v.check ∷ uint32 v.check ∷ string (key_name_of (kind_of (public_of v.key))) ∷ concat (private_fields v.key) ∷ string v.comment ∷ []

-- the values that the section of this public key may have
pub record IsBodyOf (public : PublicKey) (v : PrivateBody) : Type 0 where
  pub check : v.check < 2 ^ 32
  pub half : public_of v.key ≡ public
  pub in_range : IsTrue (is_private_in_range v.key)

-- the first fields of a section of this public key are complete, up to the place
abbrev pub SectionStands : PublicKey → ℕ → List ℕ → ℕ → List ℕ → Type 0
SectionStands public = Stands section_row (IsBodyOf public)

-- one of the two check numbers is missing
abbrev pub NoCheck : PublicKey → List ℕ → ℕ → Type 0
NoCheck public section place = (rest : List ℕ) × (SectionStands public 0 section place rest ⊎ SectionStands public 1 section place rest) × NoNumber rest

-- the type name or the comment is missing
abbrev pub NoSectionText : PublicKey → List ℕ → ℕ → Type 0
NoSectionText public section place = (rest : List ℕ) × (SectionStands public 2 section place rest ⊎ SectionStands public 4 section place rest) × NoString rest

-- the second check number is not the first
abbrev pub ChecksDiffer : PublicKey → List ℕ → Type 0
ChecksDiffer public section = (place : ℕ) × (n : ℕ) × (rest : List ℕ) × (s : SectionStands public 1 section place (uint32 n ++ rest)) × (n < 2 ^ 32) × (n ≢ (s.value).check)

-- the type name is not the public key's
abbrev pub OtherType : PublicKey → List ℕ → Type 0
OtherType public section = (place : ℕ) × (name : List ℕ) × (rest : List ℕ) × SectionStands public 2 section place (string name ++ rest) × (name ≢ key_name_of (kind_of public))

-- what follows the comment is not 1, 2, 3 and so on, at most 254 bytes (PROTOCOL.key)
abbrev pub NoPadding : PublicKey → List ℕ → Type 0
NoPadding public section = (place : ℕ) × (rest : List ℕ) × SectionStands public 5 section place rest × ((count : ℕ) → count ≤ 254 → rest ≢ padding count)

-- ---- the fields of the private key

-- the type of a field: a number above zero, any string, a byte
pub data SectionFieldSort : Type 0 where
  number : SectionFieldSort
  text : SectionFieldSort
  byte : SectionFieldSort

-- the types of the fields after the type name (PROTOCOL.key)
abbrev pub section_sorts_of : KeyKind → List SectionFieldSort
section_sorts_of Rsa = number ∷ number ∷ number ∷ number ∷ number ∷ number ∷ []
section_sorts_of P256 = text ∷ text ∷ number ∷ []
section_sorts_of P384 = text ∷ text ∷ number ∷ []
section_sorts_of P521 = text ∷ text ∷ number ∷ []
section_sorts_of Ed25519 = text ∷ text ∷ []
section_sorts_of SkP256 = text ∷ text ∷ text ∷ byte ∷ text ∷ text ∷ []
section_sorts_of SkEd25519 = text ∷ text ∷ byte ∷ text ∷ text ∷ []

-- the bytes are one field of this type
abbrev pub IsField : SectionFieldSort → List ℕ → Type 0
IsField number field = (n : ℕ) × (0 < n) × (field ≡ mpint n)
IsField text field = (bytes : List ℕ) × (field ≡ string bytes)
IsField byte field = (b : ℕ) × (field ≡ b ∷ [])

-- one field of each type, whatever its value
abbrev pub AreFields : List SectionFieldSort → List (List ℕ) → Type 0
AreFields [] [] = Unit {0}
AreFields (sort ∷ sorts) (field ∷ fields) = IsField sort field × AreFields sorts fields
AreFields [] (field ∷ fields) = ⊥
AreFields (sort ∷ sorts) [] = ⊥

-- why the rest does not begin with a field of this type: as with the number or the string of a public key; or there is no byte
abbrev pub IsMissing : WireCause → SectionFieldSort → List ℕ → Type 0
IsMissing cause number rest = keys.IsUnread cause keys.number rest
IsMissing cause text rest = keys.IsUnread cause keys.text rest
IsMissing cause byte rest = (cause ≡ Short) × (rest ≡ [])

-- fields of the first types are complete, up to the place, and the rest does not begin with a field of the next type
pub record StopsShort (sorts : List SectionFieldSort) (bytes : List ℕ) (place : ℕ) (cause : WireCause) : Type 0 where
  pub before : List SectionFieldSort
  pub sort : SectionFieldSort
  pub after : List SectionFieldSort
  pub row : sorts ≡ before ++ sort ∷ after
  pub fields : List (List ℕ)
  pub are : AreFields before fields
  pub rest : List ℕ
  pub begins : bytes ≡ concat fields ++ rest
  pub at : place ≡ length (concat fields)
  pub missing : IsMissing cause sort rest

-- the type name is complete, and after it some of the fields of its kind, up to one that is missing
pub record InSectionKey (public : PublicKey) (section : List ℕ) (place : ℕ) (cause : WireCause) : Type 0 where
  pub first : ℕ
  pub fields : List ℕ
  pub stands : SectionStands public 3 section first fields
  pub inner : ℕ
  pub at : place ≡ first + inner
  pub stops : StopsShort (section_sorts_of (kind_of public)) fields inner cause

-- All fields of the kind are complete, but no private key with this public half has them: a public field is not that one's, or an Ed25519 secret is not 64 bytes with the public key at their end.
pub record OtherKey (public : PublicKey) (section : List ℕ) : Type 0 where
  pub place : ℕ
  pub fields : List (List ℕ)
  pub rest : List ℕ
  pub stands : SectionStands public 3 section place (concat fields ++ rest)
  pub are : AreFields (section_sorts_of (kind_of public)) fields
  pub none : (key : PrivateKey) → public_of key ≡ public → IsTrue (is_private_in_range key) → fields ≢ private_fields key

-- ---- the first error

-- a value cannot be read, at its place in the section
abbrev pub IsValueFault : PublicKey → List ℕ → ℕ → WireCause → Type 0
IsValueFault public section place cause = ((cause ≡ Short) × (NoCheck public section place ⊎ NoSectionText public section place)) ⊎ InSectionKey public section place cause

-- Each field before one is complete and in its range, and that one is not. (`first` bytes come before the section.)
abbrev pub IsSectionFault : PublicKey → ℕ → List ℕ → BodyError → Type 0
IsSectionFault public first section (Wire e) = (place : ℕ) × (e.place ≡ first + place) × IsValueFault public section place e.cause
IsSectionFault public first section CheckMismatch = ChecksDiffer public section
IsSectionFault public first section PublicMismatch = OtherType public section ⊎ OtherKey public section
IsSectionFault public first section Padding = NoPadding public section
IsSectionFault public first section e = ⊥
