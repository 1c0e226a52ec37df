use Rattle.ssh_files.proofs.Imports.{length, map}
use Rattle.ssh_files.proofs.PieceLemmas.{AreWords}
use Rattle.ssh_files.proofs.values.read_words.Given as goal

abbrev pub invariant-loop-rest : goal.invariant-loop-rest
invariant-loop-rest l = AreWords l.line (map (λ w. w.now) l.words.items) l.rest

abbrev pub decreases-loop-rest : goal.decreases-loop-rest
decreases-loop-rest l = length l.rest
