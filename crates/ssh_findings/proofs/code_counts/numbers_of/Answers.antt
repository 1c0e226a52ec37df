use Rattle.ssh_findings.proofs.Imports.{arith}
use Rattle.ssh_findings.proofs.PlacedLemmas.{all-placed}
use Rattle.ssh_findings.proofs.code_counts.numbers_of.Goals as goal

pub returns : goal.returns
returns g c = all-placed g.F.Coded.code c.args.found.now c.loop-finding.finding-index c.loop-finding.numbers (omega arith) c.loop-finding.invariant
