-- The bytes that a source remembers of what was read (this project's rule): none where it was not asked to, or where
-- memory for some of them was refused.
use Rattle.std.specs.Prelude.{ℕ, List, Option, Some, None}
use Rattle.ssh_audit.specs.declared.kept.Keeping.{Keeping}
use Rattle.ssh_audit.specs.declared.kept.Keeping.TheVariants.{No, Yes, Failed}

abbrev pub bytes_if : Keeping → List ℕ → Option (List ℕ)
bytes_if No bytes = None
bytes_if Yes bytes = Some bytes
bytes_if Failed bytes = None
