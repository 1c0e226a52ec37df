use Rattle.ssh_findings.proofs.Imports.{◌≡◌, drop, named_in}
use Rattle.ssh_findings.proofs.code.named_in.Given as goal

abbrev pub invariant-loop-code : goal.invariant-loop-code
invariant-loop-code l = named_in (drop l.code-index l.codes) l.text ≡ named_in l.codes l.text
