-- The first error of bytes that are not a private key body, stated by its fields alone.
use Rattle.std.specs.Prelude.{◌≡◌, ◌≢◌, ℕ, ◌+◌, ◌%◌, ◌≤◌, ◌<◌, ◌^◌, List, [], ◌++◌, length, codes, ◌⊎◌}
use Rattle.std.specs.List.{concat, flat_map}
use Rattle.ssh_wire.specs.declared.cursor.WireCause.TheVariants.{Short}
use Rattle.ssh_wire.specs.Spelling.{string, uint32}
use Rattle.ssh_keys.specs.FirstFault.{IsFirstFault}
use Rattle.ssh_keys.specs.PublicKey.{PublicKey, longest, IsKey}
use Rattle.ssh_bodies.specs.declared.error.BodyError.{BodyError}
use Rattle.ssh_bodies.specs.declared.error.BodyError.TheVariants.{Magic, Encrypted, KeyCount, CheckMismatch, Padding, NotMultipleOfEight, PublicMismatch, Version, EmptyNamespace, Hash, Key, Wire, Trailing, TooLong}
use Rattle.ssh_bodies.specs.PrivateKey.{private_magic, private_row}
use Rattle.ssh_bodies.specs.SectionFault.{IsSectionFault}
use Rattle.ssh_wire.specs.Stands.{Stands, NoNumber, NoString}

-- the first fields of a body with a plain key and some private section are complete, up to the place
abbrev pub PrivateStands : ℕ → List ℕ → ℕ → List ℕ → Type 0
PrivateStands = Stands private_row (λ v. IsKey v.0)

-- the names of cipher and key derivation and its options are complete, and are not those of a body that is not encrypted
pub record IsEncrypted (bytes : List ℕ) : Type 0 where
  pub place : ℕ
  pub cipher : List ℕ
  pub kdf : List ℕ
  pub options : List ℕ
  pub rest : List ℕ
  pub stands : PrivateStands 1 bytes place (string cipher ++ (string kdf ++ (string options ++ rest)))
  pub encrypted : ¬ ((cipher ≡ codes "none") × (kdf ≡ codes "none") × (options ≡ []))

-- at most two of those three strings are complete, and the rest does not begin with another string
pub record NoHeader (bytes : List ℕ) (place : ℕ) : Type 0 where
  pub texts : List (List ℕ)
  pub few : length texts ≤ 2
  pub first : ℕ
  pub rest : List ℕ
  pub stands : PrivateStands 1 bytes first (flat_map string texts ++ rest)
  pub at : place ≡ first + length (flat_map string texts)
  pub none : NoString rest

-- the count of keys is missing at its place, or the public key's string, or the section's string
abbrev pub NoField : List ℕ → ℕ → Type 0
NoField bytes place = ((rest : List ℕ) × PrivateStands 4 bytes place rest × NoNumber rest)
    ⊎ (((rest : List ℕ) × PrivateStands 5 bytes place rest × NoString rest) ⊎ ((rest : List ℕ) × PrivateStands 6 bytes place rest × NoString rest))

-- The bytes are all fields of a body, whose section is a multiple of 8 long, and this error is inside the section. (`first` bytes come before the section.)
pub record InSection (bytes : List ℕ) (e : BodyError) : Type 0 where
  pub public : PublicKey
  pub section : List ℕ
  pub is_key : IsKey public
  pub spelled : bytes ≡ concat (private_row (public, section))
  pub whole : length section % 8 ≡ 0
  pub first : ℕ
  pub at : length bytes ≡ first + length section
  pub fault : IsSectionFault public first section e

-- each field before one is complete and in its range, and that one is not
abbrev pub IsPrivateFieldFault : List ℕ → BodyError → Type 0
IsPrivateFieldFault bytes Magic = (rest : List ℕ) → bytes ≢ private_magic ++ rest
IsPrivateFieldFault bytes Encrypted = IsEncrypted bytes
IsPrivateFieldFault bytes KeyCount = (place : ℕ) × (n : ℕ) × (rest : List ℕ) × PrivateStands 4 bytes place (uint32 n ++ rest) × (n < 2 ^ 32) × (n ≢ 1)
IsPrivateFieldFault bytes (Key e) = (place : ℕ) × (blob : List ℕ) × (rest : List ℕ) × PrivateStands 5 bytes place (string blob ++ rest) × IsFirstFault blob e
IsPrivateFieldFault bytes Trailing = (place : ℕ) × (rest : List ℕ) × PrivateStands 7 bytes place rest × (rest ≢ [])
IsPrivateFieldFault bytes NotMultipleOfEight = (place : ℕ) × (text : List ℕ) × PrivateStands 6 bytes place (string text) × (length text % 8 ≢ 0)
IsPrivateFieldFault bytes (Wire e) = ((e.cause ≡ Short) × (NoHeader bytes e.place ⊎ NoField bytes e.place)) ⊎ InSection bytes (Wire e)
IsPrivateFieldFault bytes CheckMismatch = InSection bytes CheckMismatch
IsPrivateFieldFault bytes PublicMismatch = InSection bytes PublicMismatch
IsPrivateFieldFault bytes Padding = InSection bytes Padding
IsPrivateFieldFault bytes Version = ⊥
IsPrivateFieldFault bytes EmptyNamespace = ⊥
IsPrivateFieldFault bytes Hash = ⊥
IsPrivateFieldFault bytes TooLong = ⊥

-- The first error: the body passes the limit; or it is within it, and the error is one of its fields.
abbrev pub IsPrivateFault : List ℕ → BodyError → Type 0
IsPrivateFault bytes e = ((longest < length bytes) × (e ≡ TooLong)) ⊎ ((length bytes ≤ longest) × IsPrivateFieldFault bytes e)
