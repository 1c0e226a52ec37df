-- Which of the signatures that are looked for a vouch file vouches for (this project's rule).
use Rattle.std.specs.Prelude.{◌≡◌, ℕ, Bool, false, List, Option, Some, None, Result, Ok, Err, option_map}
use Rattle.std.specs.Borrow.{Bor}
use Rattle.ssh_offers.specs.declared.claim.Signed.{Signed}
use Rattle.ssh_offers.specs.Vouching.{is_vouched}
use Rattle.ssh_files.specs.declared.part.Found.{Found}
use Rattle.ssh_files.specs.VouchFile.{vouched_of}

-- the signature that is looked for, if any
abbrev pub wanted_of : Option (Bor Signed) → Option Signed
wanted_of wanted = option_map (λ s. s.now) wanted

-- whether the signature that is looked for is among these; where there is none, nothing is found
abbrev pub is_wanted_among : Option Signed → List Signed → Bool
is_wanted_among None vouched = false
is_wanted_among (Some signed) vouched = is_vouched vouched signed

-- which of two signatures are among these
abbrev pub AreFound : Option Signed → Option Signed → List Signed → Found → Type 0
AreFound first second vouched found = (found.first ≡ is_wanted_among first vouched) × (found.second ≡ is_wanted_among second vouched)

-- The result for two signatures and a vouch file with these bytes: which of them it vouches for, or its first line that
-- is not a triple.
abbrev pub TellsOf : Option Signed → Option Signed → List ℕ → Result Found ℕ → Type 0
TellsOf first second file (Ok found) = (vouched : List Signed) × (vouched_of file ≡ Ok vouched) × AreFound first second vouched found
TellsOf first second file (Err n) = vouched_of file ≡ Err n
