use Rattle.ssh_findings.proofs.Imports.{◌≡◌, drop, has_listen}
use Rattle.ssh_findings.proofs.carried.has_listen.Given as goal

abbrev pub invariant-loop-text : goal.invariant-loop-text
invariant-loop-text l = has_listen (drop l.text-index l.carried) ≡ has_listen l.carried
