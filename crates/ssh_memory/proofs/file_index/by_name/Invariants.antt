use Rattle.std.proofs.Common.{◌≡◌, ℕ, List, drop}
use Rattle.std.specs.Option.{option_or}
use Rattle.ssh_memory.specs.FirstNamed.{file_at, first_named}
use Rattle.ssh_memory.proofs.file_index.by_name.Given as goal

abbrev pub invariant-loop-file : goal.invariant-loop-file
invariant-loop-file l = (name : List ℕ) → option_or (file_at l.names name) (first_named (drop l.file-index l.files) name) ≡ first_named l.files name
