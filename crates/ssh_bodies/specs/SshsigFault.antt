-- The first error of bytes that are not a file signature's body, stated by its fields alone.
use Rattle.std.specs.Prelude.{◌≡◌, ◌≢◌, ℕ, ◌+◌, ◌≤◌, ◌<◌, ◌^◌, List, [], ◌++◌, length, codes, ◌⊎◌}
use Rattle.ssh_wire.specs.declared.cursor.WireCause.TheVariants.{Short}
use Rattle.ssh_wire.specs.declared.cursor.WireError.{WireError}
use Rattle.ssh_wire.specs.Spelling.{string, uint32}
use Rattle.ssh_keys.specs.FirstFault.{IsFirstFault}
use Rattle.ssh_keys.specs.PublicKey.{longest, IsKey}
use Rattle.ssh_keys.specs.Signature.{IsSignature}
use Rattle.ssh_keys.specs.SignatureFault.{IsSignatureFault}
use Rattle.ssh_bodies.specs.declared.error.BodyError.{BodyError}
use Rattle.ssh_bodies.specs.declared.error.BodyError.TheVariants.{Magic, Encrypted, KeyCount, CheckMismatch, Padding, NotMultipleOfEight, PublicMismatch, Version, EmptyNamespace, Hash, Key, Wire, Trailing, TooLong}
use Rattle.ssh_bodies.specs.Sshsig.{Sshsig, sshsig_magic, sshsig_row, sshsig_blob}
use Rattle.ssh_wire.specs.Stands.{Stands, NoNumber, NoString}

-- a file signature whose fields are in their ranges, in a body of any length
pub record IsSpelledSshsig (v : Sshsig) : Type 0 where
  pub key : IsKey v.key
  pub namespace : v.namespace ≢ []
  pub signature : IsSignature v.signature

-- the first fields are complete, up to the place
abbrev pub SshsigStands : ℕ → List ℕ → ℕ → List ℕ → Type 0
SshsigStands = Stands sshsig_row IsSpelledSshsig

-- the version is missing at its place
abbrev pub NoVersion : List ℕ → ℕ → Type 0
NoVersion bytes place = (rest : List ℕ) × SshsigStands 1 bytes place rest × NoNumber rest

-- one of the five strings is missing at its place
pub record NoText (bytes : List ℕ) (place : ℕ) : Type 0 where
  pub fields : ℕ
  pub low : 2 ≤ fields
  pub high : fields ≤ 6
  pub rest : List ℕ
  pub stands : SshsigStands fields bytes place rest
  pub none : NoString rest

-- the string of the signature is complete, and its text is not a signature's blob; places count in the whole body
pub record InSignature (bytes : List ℕ) (e : WireError) : Type 0 where
  pub place : ℕ
  pub text : List ℕ
  pub rest : List ℕ
  pub stands : SshsigStands 6 bytes place (string text ++ rest)
  pub inner : ℕ
  pub at : e.place ≡ place + 4 + inner
  pub fault : IsSignatureFault text (record { place = inner; cause = e.cause })

-- each field before one is complete and in its range, and that one is not
abbrev pub IsSshsigFieldFault : List ℕ → BodyError → Type 0
IsSshsigFieldFault bytes Magic = (rest : List ℕ) → bytes ≢ sshsig_magic ++ rest
IsSshsigFieldFault bytes Version = (place : ℕ) × (n : ℕ) × (rest : List ℕ) × SshsigStands 1 bytes place (uint32 n ++ rest) × (n < 2 ^ 32) × (n ≢ 1)
IsSshsigFieldFault bytes (Key e) = (place : ℕ) × (blob : List ℕ) × (rest : List ℕ) × SshsigStands 2 bytes place (string blob ++ rest) × IsFirstFault blob e
IsSshsigFieldFault bytes EmptyNamespace = (place : ℕ) × (rest : List ℕ) × SshsigStands 3 bytes place (string [] ++ rest)
IsSshsigFieldFault bytes Hash = (place : ℕ) × (name : List ℕ) × (rest : List ℕ) × SshsigStands 5 bytes place (string name ++ rest) × (name ≢ codes "sha256") × (name ≢ codes "sha512")
IsSshsigFieldFault bytes (Wire e) = ((e.cause ≡ Short) × (NoVersion bytes e.place ⊎ NoText bytes e.place)) ⊎ InSignature bytes e
IsSshsigFieldFault bytes Trailing = (v : Sshsig) × (rest : List ℕ) × IsSpelledSshsig v × (rest ≢ []) × (bytes ≡ sshsig_blob v ++ rest)
IsSshsigFieldFault bytes Encrypted = ⊥
IsSshsigFieldFault bytes KeyCount = ⊥
IsSshsigFieldFault bytes CheckMismatch = ⊥
IsSshsigFieldFault bytes Padding = ⊥
IsSshsigFieldFault bytes NotMultipleOfEight = ⊥
IsSshsigFieldFault bytes PublicMismatch = ⊥
IsSshsigFieldFault bytes TooLong = ⊥

-- The first error: the body passes the limit; or it is within it, and the error is one of its fields.
abbrev pub IsSshsigFault : List ℕ → BodyError → Type 0
IsSshsigFault bytes e = ((longest < length bytes) × (e ≡ TooLong)) ⊎ ((length bytes ≤ longest) × IsSshsigFieldFault bytes e)
