use Rattle.ssh_wire.proofs.Imports.{arith, ◌∙◌}
use Rattle.ssh_wire.proofs.MpintLemmas.{same_number}
use Rattle.ssh_wire.proofs.wire.is_equal.Goals as goal

pub returns : goal.returns
returns c =
    c.eq.ensures
    ∙ same_number c.args.a.now c.args.b.now (λ i. omega (arith, c.type_inv.a i)) (λ i. omega (arith, c.type_inv.b i)) c.requires.a_least c.requires.a_sign c.requires.b_least c.requires.b_sign
