-- The answer over a reader, and how many bytes are read from it.
use Rattle.std.specs.Prelude.{◌≡◌, ℕ, ◌+◌, ◌≤◌, ◌<◌, List, length, Option, Result, Ok, Err, OnOk, ⊤}
use Rattle.std.specs.Io.KnownBytes.{Consumes, IsAtEnd}
use Rattle.ssh_offers.specs.declared.claim.AuditError.{AuditError}
use Rattle.ssh_offers.specs.declared.claim.AuditError.TheVariants.{FileTooLong, Memory, Read}
use Rattle.ssh_trust.specs.declared.decision.Decision.{Decision}
use Rattle.ssh_trust.specs.Answer.{GivesOrMemory}
use Rattle.ssh_text.specs.Text.{file_limit}

-- the most bytes of one read (this project's rule)
abbrev pub piece_size : ℕ
piece_size = 4096

-- The reader gave some bytes, and the answer is that of the file with these bytes, unless a read failed. Where there is
-- a decision, they are all that the reader had.
pub record AnswersReader (old new : Option (List ℕ)) (of_file : List ℕ → Result Decision AuditError) (result : Result Decision AuditError) : Type 0 where
  pub given : List ℕ
  pub consumed : Consumes old new given
  pub bounded : length given ≤ file_limit + piece_size
  pub to_end : OnOk result (IsAtEnd new)
  pub answer : (result ≡ Err Read → ⊥) → GivesOrMemory (of_file given) result

-- the reader gave all that it had, and this holds of the file with those bytes
pub record HoldsOfRead (old new : Option (List ℕ)) (Holds : List ℕ → Type 0) : Type 0 where
  pub given : List ℕ
  pub consumed : Consumes old new given
  pub to_end : IsAtEnd new
  pub holds : Holds given

-- ---- an audit that is fed from a reader

-- why feeding stops: the reader ended, or the file with this many bytes is too long, or memory or a read was refused
abbrev pub StopsBy : Type 0 → Option (List ℕ) → ℕ → Result (Unit {0}) AuditError → Type 0
StopsBy taken new size (Ok x) = taken × IsAtEnd new
StopsBy taken new size (Err FileTooLong) = file_limit < size
StopsBy taken new size (Err Memory) = ⊤
StopsBy taken new size (Err Read) = ⊤
StopsBy taken new size (Err e) = ⊥

-- an audit that had taken this many bytes was fed what the reader gave
pub record IsFedBy (stands : List ℕ → Type 0) (old new : Option (List ℕ)) (before : ℕ) (result : Result (Unit {0}) AuditError) : Type 0 where
  pub given : List ℕ
  pub consumed : Consumes old new given
  pub bounded : before + length given ≤ file_limit + piece_size
  pub stops : StopsBy (stands given) new (before + length given) result
