use Rattle.ssh_patterns.proofs.Imports.{◌∙◌, sym, take, drop, arith, Decides-eqb, strip_prefix_is}
use Rattle.ssh_patterns.proofs.CutLemmas.{after_mark-none, cut-later, cut-here}
use Rattle.ssh_patterns.proofs.pattern.split_once.Goals as goal

pub returns-in-Some : goal.returns-in-Some
returns-in-Some c =
    let mark = c.args.mark.now in
    let text = c.args.text.now in
    let found = strip_prefix_is Decides-eqb c.split_at.result.1.now mark _ c.strip_prefix.ensures.cases in
    let whole = rw (c.in-Some.is, c.split_at.ensures.back) at found in
    rw c.split_at.ensures.front
    (sym (cut-here mark (drop c.loop-at.at text) c.in-Some.after.now (take c.loop-at.at text) c.requires whole)
    ∙ c.loop-at.invariant)

pub loop-at-preserved : goal.loop-at-preserved
loop-at-preserved c =
    let mark = c.args.mark.now in
    let text = c.args.text.now in
    let found = strip_prefix_is Decides-eqb c.split_at.result.1.now mark _ c.strip_prefix.ensures.cases in
    let none = rw (c.in_default.is, c.split_at.ensures.back) at found in
    sym (cut-later mark text c.loop-at.at (omega arith) (after_mark-none mark (drop c.loop-at.at text) none))
    ∙ c.loop-at.invariant
