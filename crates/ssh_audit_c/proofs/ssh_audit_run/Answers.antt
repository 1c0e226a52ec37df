use Rattle.std.proofs.Common.{List, subst, ℕ}
use Rattle.ssh_lending.specs.Lending.{Lends}
use Rattle.ssh_print.specs.Responses.{out_of_memory}
use Rattle.ssh_memory.specs.MemoryFiles.{source_at_first}
use Rattle.ssh_memory.specs.MemoryRuns.{texts_of}
use Rattle.ssh_memory.proofs.RunLemmas.{no_memory}
use Rattle.ssh_audit_c.proofs.ssh_audit_run.Goals as goal

pub returns-in-Ok-clause-means : goal.returns-in-Ok-clause-means
returns-in-Ok-clause-means c text = (
  c.in-Ok.output.text.items,
  c.in-Ok.ensures.means,
  subst (λ (text : List ℕ). Lends text c.args.out.now c.lend.new.out c.lend.result) c.deref.ensures.value c.lend.ensures,
)

pub returns-in-Err-Memory-clause-means : goal.returns-in-Err-Memory-clause-means
returns-in-Err-Memory-clause-means c text =
    (out_of_memory.text, no_memory (texts_of c.args.words.now) (source_at_first c.args.files.now c.args.input.now), c.lend-in-Err-Memory.ensures)
