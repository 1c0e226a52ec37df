-- How many fields of a format bytes begin with, and that the rest does not begin with a field.
use Rattle.std.specs.Prelude.{◌≡◌, ℕ, ◌<◌, ◌^◌, List, ◌++◌, length, take}
use Rattle.std.specs.List.{concat}
use Rattle.ssh_wire.specs.Fronts.{Begins}
use Rattle.ssh_wire.specs.Spelling.{uint32, uint64, string}

-- The bytes begin with the first fields of some value in range, up to the place, and the rest follows. (A row is a value's fields in order, each by its spelling.)
pub record Stands {A : Type 0} (row : A → List (List ℕ)) (Fits : A → Type 0) (fields : ℕ) (bytes : List ℕ) (place : ℕ) (rest : List ℕ) : Type 0 where
  pub value : A
  pub fits : Fits value
  pub begins : bytes ≡ concat (take fields (row value)) ++ rest
  pub at : place ≡ length (concat (take fields (row value)))

-- the rest does not begin with a number of four bytes
abbrev pub NoNumber : List ℕ → Type 0
NoNumber rest = ¬ Begins uint32 (λ n. n < 2 ^ 32) rest

-- the rest does not begin with a number of eight bytes
abbrev pub NoLongNumber : List ℕ → Type 0
NoLongNumber rest = ¬ Begins uint64 (λ n. n < 2 ^ 64) rest

-- the rest does not begin with a string
abbrev pub NoString : List ℕ → Type 0
NoString rest = ¬ Begins string (λ text. length text < 2 ^ 32) rest

-- the rest begins with a string that has this property
pub record BeginsString (Is : List ℕ → Type 0) (rest : List ℕ) : Type 0 where
  pub text : List ℕ
  pub is : Is text
  pub more : List ℕ
  pub begins : rest ≡ string text ++ more
