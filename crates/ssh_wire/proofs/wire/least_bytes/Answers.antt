use Rattle.ssh_wire.proofs.Imports.{arith, sym, mpint_bytes-natural}
use Rattle.ssh_wire.proofs.wire.least_bytes.Goals as goal

pub returns : goal.returns
returns c = sym (mpint_bytes-natural c.args.bytes.now (λ i. omega (arith, c.type_inv.bytes i)) c.requires.least c.requires.sign)
