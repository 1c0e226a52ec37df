use Rattle.ssh_findings.proofs.Imports.{◌≡◌, length, least_of}
use Rattle.ssh_findings.proofs.recovered_key.least_of.Given as goal

abbrev pub invariant-loop-rest : goal.invariant-loop-rest
invariant-loop-rest l = least_of l.rest ≡ least_of l.bytes

abbrev pub decreases-loop-rest : goal.decreases-loop-rest
decreases-loop-rest l = length l.rest
