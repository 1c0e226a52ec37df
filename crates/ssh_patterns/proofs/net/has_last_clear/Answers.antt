use Rattle.ssh_patterns.proofs.Imports.{arith}
use Rattle.ssh_patterns.proofs.NetLemmas.{all_bits}
use Rattle.ssh_patterns.proofs.net.has_last_clear.Goals as goal

pub returns-in-None : goal.returns-in-None
returns-in-None c = let k = c.in-None in all_bits c.args.number c.args.bits (omega arith) (omega arith)
