-- The file or standard input that the system's source reads.
use Rattle.std.specs.Prelude.{◌≡◌, ◌≢◌, ℕ, Bool, true, false, List, Result, IsErr, ⊤}
use Rattle.ssh_files.specs.SourceState.{dash}
use Rattle.ssh_audit.specs.declared.system.Chosen.{Chosen}
use Rattle.ssh_audit.specs.declared.system.Chosen.TheVariants.{Nothing, Input, File}

-- the name `-` chooses standard input, which is always there; another name chooses the file that was opened, or nothing
-- if none was
abbrev pub IsPlaceOf : {F : Type 0} → List ℕ → Bool → Chosen F → Type 0
IsPlaceOf name there Nothing = (name ≢ dash) × (there ≡ false)
IsPlaceOf name there Input = (name ≡ dash) × (there ≡ true)
IsPlaceOf name there (File file) = (name ≢ dash) × (there ≡ true)

abbrev pub IsFile : {F : Type 0} → Chosen F → Type 0
IsFile Nothing = ⊥
IsFile Input = ⊥
IsFile (File file) = ⊤

-- if nothing is chosen a read fails; a read changes standard input only if that is chosen
abbrev pub ReadsPlace : {F I E : Type 0} → Chosen F → Chosen F → I → I → Result ℕ E → Type 0
ReadsPlace Nothing new before after r = IsErr r × (new ≡ Nothing) × (after ≡ before)
ReadsPlace Input new before after r = new ≡ Input
ReadsPlace (File file) new before after r = IsFile new × (after ≡ before)
