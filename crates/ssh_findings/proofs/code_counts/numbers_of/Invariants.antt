use Rattle.ssh_findings.proofs.Imports.{take}
use Rattle.ssh_findings.proofs.PlacedLemmas.{ArePlaced}
use Rattle.ssh_findings.proofs.code_counts.numbers_of.Given as goal

abbrev pub invariant-loop-finding : goal.invariant-loop-finding
invariant-loop-finding g l = ArePlaced g.F.Coded.code l.numbers (take l.finding-index l.found)
