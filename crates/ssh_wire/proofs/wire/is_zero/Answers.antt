use Rattle.ssh_wire.proofs.Imports.{arith, ◌∙◌}
use Rattle.ssh_wire.proofs.MpintLemmas.{is_zero_by_length}
use Rattle.ssh_wire.proofs.wire.is_zero.Goals as goal

pub returns : goal.returns
returns c = c.is_empty.ensures ∙ is_zero_by_length c.args.bytes.now (λ i. omega (arith, c.type_inv.bytes i)) c.requires.least c.requires.sign
