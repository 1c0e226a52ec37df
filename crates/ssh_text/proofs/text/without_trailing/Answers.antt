use Rattle.ssh_text.proofs.Imports.{arith, sym, ◌∙◌}
use Rattle.ssh_text.proofs.EndLemmas.{without_trailing-last, without_trailing-other}
use Rattle.ssh_text.proofs.text.without_trailing.Goals as goal

pub loop-kept-preserved : goal.loop-kept-preserved
loop-kept-preserved c =
    without_trailing-last c.loop-kept.kept.now (omega arith) (sym c.is_trailing.ensures ∙ c.if-not-is_trailing.false) ∙ c.loop-kept.invariant

pub returns-then-not-is_trailing : goal.returns-then-not-is_trailing
returns-then-not-is_trailing c =
    without_trailing-other c.loop-kept.kept.now (omega arith) (sym c.is_trailing.ensures ∙ c.if-not-is_trailing.true) ∙ c.loop-kept.invariant
