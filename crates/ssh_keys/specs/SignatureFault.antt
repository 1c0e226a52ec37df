-- The first error of bytes that are not a signature's blob, stated by its fields alone.
use Rattle.std.specs.Prelude.{◌≡◌, ◌⊎◌, ℕ, ◌<◌, ◌≤◌, List, length, is_some, IsTrue}
use Rattle.ssh_wire.specs.declared.cursor.WireCause.{WireCause}
use Rattle.ssh_wire.specs.declared.cursor.WireCause.TheVariants.{Short, MpintNotMinimal, MpintNegative, Trailing, Value}
use Rattle.ssh_wire.specs.declared.cursor.WireError.{WireError}
use Rattle.ssh_wire.specs.Rows.{StopsAt, GoesOnAt}
use Rattle.ssh_keys.specs.PublicKey.{longest}
use Rattle.ssh_keys.specs.FirstFault.{AreShort}
use Rattle.ssh_keys.specs.Signature.{Signature, signature_row, is_sk_algorithm, is_sk_in_range}

-- a signature whose fields have spellings, in a blob of any length
pub record IsSpelledSignature (s : Signature) : Type 0 where
  pub sk : is_some s.sk ≡ is_sk_algorithm s.algorithm
  pub ranges : IsTrue (is_sk_in_range s.sk)
  pub short : AreShort (signature_row s)

-- There are bytes after all fields of a signature; or the next field is in no signature that has the fields before it.
abbrev pub IsFaultBy : List ℕ → ℕ → WireCause → Type 0
IsFaultBy bytes place Trailing = GoesOnAt signature_row IsSpelledSignature bytes place
IsFaultBy bytes place Short = StopsAt signature_row IsSpelledSignature bytes place
IsFaultBy bytes place Value = ⊥
IsFaultBy bytes place MpintNotMinimal = ⊥
IsFaultBy bytes place MpintNegative = ⊥

abbrev pub IsFaultOfFields : List ℕ → WireError → Type 0
IsFaultOfFields bytes e = IsFaultBy bytes e.place e.cause

-- the bytes pass the limit
abbrev pub IsPastLimit : List ℕ → WireError → Type 0
IsPastLimit bytes e = (longest < length bytes) × (e.place ≡ 0) × (e.cause ≡ Value)

-- The first error: the bytes pass the limit; or they are within it, and the error is one of their fields.
abbrev pub IsSignatureFault : List ℕ → WireError → Type 0
IsSignatureFault bytes e = IsPastLimit bytes e ⊎ ((length bytes ≤ longest) × IsFaultOfFields bytes e)
