use Rattle.ssh_wire.proofs.Imports.{arith, sym, ◌∙◌, mpint_bytes-natural}
use Rattle.ssh_wire.proofs.MpintLemmas.{not_least_none, negative_none}
use Rattle.ssh_wire.proofs.wire.Mpint.new.Goals as goal
use Rattle.ssh_wire.proofs.wire.Mpint.new.Goals.{else-is_least-via-then-is_least+else-is_not_negative, else-is_least-via-else-is_least}

pub returns-then-is_not_negative-clause-found : goal.returns-then-is_not_negative-clause-found
returns-then-is_not_negative-clause-found c = mpint_bytes-natural c.args.bytes.now (λ i. omega (arith, c.type_inv.bytes i)) (sym c.is_least.ensures ∙ c.if-is_least.true) (sym c.is_not_negative.ensures ∙ c.if-is_not_negative.true)

pub returns-else-is_least-clause-none : goal.returns-else-is_least-clause-none
returns-else-is_least-clause-none c =
    elim c.else-is_least.branch [
      | else-is_least-via-then-is_least+else-is_not_negative w ↦ negative_none c.args.bytes.now (sym w.is_not_negative.ensures ∙ w.if-is_not_negative.false)
      | else-is_least-via-else-is_least w ↦ not_least_none c.args.bytes.now (sym c.is_least.ensures ∙ w.if-is_least.false)
    ]
