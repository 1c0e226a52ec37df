-- What files tell that are read one after the other (this project's rule).
use Rattle.std.specs.Prelude.{◌≡◌, ◌⊎◌, ◌<◌, ℕ, List, [], ◌∷◌, Option, Some, Result}
use Rattle.ssh_files.specs.declared.files.UnreadCause.{UnreadCause}
use Rattle.ssh_files.specs.SourceState.{SourceState, cause_at, given_at, most_failures}
use Rattle.ssh_files.specs.Loading.{KeepsOthers, NoReadFailed, OneReadFailed, ReadToEnd}

-- what a file of this name tells by its bytes, or by why there are none; and what it tells where a read of it fails
pub record Telling (N A : Type 0) : Type 0 where
  -- by which name it is read
  pub path : N → List ℕ
  pub of_bytes : N → Result (List ℕ) UnreadCause → A
  pub of_fault : N → UnreadCause → A

-- The file of this name tells what its bytes say, and is read to its end; or that a read of it failed. No other file is read.
abbrev pub TellsFile : {N A : Type 0} → Telling N A → N → SourceState → Option SourceState → A → Type 0
TellsFile tells name s t reported = KeepsOthers (tells.path name) s t
    × ((OneReadFailed s t (tells.path name) × (reported ≡ tells.of_fault name (cause_at s (tells.path name))))
    ⊎ (NoReadFailed s t × ReadToEnd (tells.path name) s t × (reported ≡ tells.of_bytes name (given_at s (tells.path name)))))

-- One after the other, each whatever came of those before it; what each tells is added to what is reported so far.
abbrev pub TellsFiles : {N A B : Type 0} → (B → A → B) → Telling N A → B → List N → SourceState → Option SourceState → B → Type 0
TellsFiles with tells sofar [] s t reported = NoReadFailed s t × (reported ≡ sofar)
TellsFiles with tells sofar (name ∷ names) s t reported =
    (m : SourceState) × (first : _) × TellsFile tells name s (Some m) first
    × (m.failures < most_failures → TellsFiles with tells (with sofar first) names m t reported)
