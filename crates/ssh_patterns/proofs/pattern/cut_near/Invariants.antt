use Rattle.ssh_patterns.proofs.CutLemmas.{NoByte}
use Rattle.ssh_patterns.proofs.pattern.cut_near.Given as goal

abbrev pub invariant-loop-at : goal.invariant-loop-at
invariant-loop-at l = NoByte l.mark l.text l.at
