use Rattle.ssh_patterns.proofs.Imports.{arith, eq-eqb}
use Rattle.ssh_patterns.proofs.CutLemmas.{near-here, near-none}
use Rattle.ssh_patterns.proofs.pattern.cut_near.Goals as goal

pub returns-then-text-at : goal.returns-then-text-at
returns-then-text-at c =
    near-here c.args.mark c.args.limit c.args.text.now c.loop-at.at (omega arith) (omega arith) c.loop-at.invariant
    (eq-eqb _ _ c.if-text-at.true)

pub returns : goal.returns
returns c = near-none c.args.mark c.args.limit c.args.text.now c.loop-at.at (omega arith) c.loop-at.invariant
