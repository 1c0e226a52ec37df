use Rattle.ssh_findings.proofs.Imports.{◌≡◌, drop, has_open}
use Rattle.ssh_findings.proofs.carried.has_open.Given as goal

abbrev pub invariant-loop-text : goal.invariant-loop-text
invariant-loop-text l = has_open (drop l.text-index l.carried) ≡ has_open l.carried
