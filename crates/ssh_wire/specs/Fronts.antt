-- What is at the front of bytes: the spelling that was read there, or no value's spelling.
use Rattle.std.proofs.Common.{◌≡◌, ℕ, ◌+◌, ◌<◌, List, ◌++◌, length, take, get_or}
use Rattle.ssh_wire.specs.declared.cursor.WireError.{WireError}
use Rattle.ssh_wire.specs.Position.{Position}

-- each of them is a byte
abbrev pub IsBytes : List ℕ → Type 0
IsBytes bytes = (i : ℕ) → get_or bytes i 0 < 256

-- the old bytes are the front of the new ones
abbrev pub Keeps : List ℕ → List ℕ → Type 0
Keeps old new = take (length old) new ≡ old

-- the text is at the first position, and the second position is after it
pub record Took (before : Position) (text : List ℕ) (after : Position) : Type 0 where
  pub parts : before.rest ≡ text ++ after.rest
  pub place : after.place ≡ before.place + length text
  pub rest_fits : IsBytes after.rest

-- some value in its range has its spelling at the front of the bytes
pub record Begins {A : Type 0} (spelling : A → List ℕ) (Fits : A → Type 0) (bytes : List ℕ) : Type 0 where
  pub value : A
  pub fits : Fits value
  pub rest : List ℕ
  pub begins : bytes ≡ spelling value ++ rest

-- no value is spelled at the reader's position: the error is there, and the reader stays there
pub record IsRefused {A : Type 0} (spelling : A → List ℕ) (Fits : A → Type 0) (before : Position) (e : WireError) (after : Position) : Type 0 where
  pub none : ¬ Begins spelling Fits before.rest
  pub place : e.place ≡ before.place
  pub stays : after ≡ before
