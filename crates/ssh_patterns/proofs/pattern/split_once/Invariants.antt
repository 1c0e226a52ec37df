use Rattle.ssh_patterns.proofs.Imports.{◌≡◌, take, drop, cut_at}
use Rattle.ssh_patterns.proofs.CutLemmas.{following}
use Rattle.ssh_patterns.proofs.pattern.split_once.Given as goal

abbrev pub invariant-loop-at : goal.invariant-loop-at
invariant-loop-at l = following (take l.at l.text) (cut_at l.mark (drop l.at l.text)) ≡ cut_at l.mark l.text
