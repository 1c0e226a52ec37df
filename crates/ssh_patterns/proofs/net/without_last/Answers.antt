use Rattle.ssh_patterns.proofs.Imports.{◌∙◌, arith}
use Rattle.ssh_patterns.proofs.NetLemmas.{first_bits}
use Rattle.ssh_patterns.proofs.net.without_last.Goals as goal

pub returns : goal.returns
returns c = c.unbounded_shr.ensures ∙ first_bits c.args.number c.args.bits (omega arith)
