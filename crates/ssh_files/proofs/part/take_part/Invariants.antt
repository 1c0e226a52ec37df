use Rattle.ssh_files.proofs.Imports.{◌-◌, ℕ, List, IfTells}
use Rattle.ssh_files.proofs.PartReading.{IsTakingPart}
use Rattle.ssh_files.proofs.part.take_part.Given as goal

abbrev pub invariant-loop-count : goal.invariant-loop-count
invariant-loop-count g l = ((bytes : List ℕ) × g.K.Keeper.took l.fn.keeper l.keeper bytes)
    × IfTells (g.F.Files.source_state l.fn.files) (λ s. IsTakingPart (g.K.Keeper.took l.fn.keeper l.keeper) l.count s l.fresh (g.F.Files.source_state l.files))

abbrev pub decreases-loop-count : goal.decreases-loop-count
decreases-loop-count g l = 67108865 - l.count
