-- What a denial implies for the lines that cannot be read.
use Rattle.std.specs.Prelude.{◌≡◌, ℕ, false, List, bytes_eq, Some}
use Rattle.ssh_print.specs.PossibleLines.{held_blob}

-- the line holds a key where OpenSSH looks for one, and its blob is not this one
pub record HoldsAnother (line blob : List ℕ) : Type 0 where
  pub held : List ℕ
  pub holds : held_blob line ≡ Some held
  pub other : bytes_eq held blob ≡ false
