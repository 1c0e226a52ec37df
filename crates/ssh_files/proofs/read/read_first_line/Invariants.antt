use Rattle.ssh_files.proofs.Imports.{◌-◌, vec_len, IfTells}
use Rattle.ssh_files.proofs.LineReading.{IsReadingLine}
use Rattle.ssh_files.proofs.read.read_first_line.Given as goal

abbrev pub invariant-loop-piece : goal.invariant-loop-piece
invariant-loop-piece g l = IfTells (g.F.Files.source_state l.fn.files) (λ s. IsReadingLine s l.bytes.items (g.F.Files.source_state l.files))

abbrev pub decreases-loop-piece : goal.decreases-loop-piece
decreases-loop-piece g l = 65537 - vec_len l.bytes
