use Rattle.ssh_entries.proofs.Imports.{◌≡◌, ◌++◌, take, drop, xor_each}
use Rattle.ssh_entries.proofs.hashed.xor_each.Given as goal

abbrev pub invariant-loop-at : goal.invariant-loop-at
invariant-loop-at l = l.mixed ≡ xor_each l.pad (take l.at l.block) ++ drop l.at l.block
