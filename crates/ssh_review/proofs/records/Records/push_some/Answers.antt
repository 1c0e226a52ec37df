use Rattle.ssh_review.proofs.Imports.{◌∙◌, arith, asking_of, refl}
use Rattle.ssh_review.proofs.MakingLemmas.{made-on, nothing-made}
use Rattle.ssh_review.proofs.records.Records.push_some.Goals as goal

pub loop-out-init : goal.loop-out-init
loop-out-init g c = (nothing-made g.L.LineRecords.tells c.args.show c.args.form (asking_of c.args.asked.now) c.args.head.now c.args.self.now c.args.out.now.items, omega arith, refl)

pub loop-out-preserved : goal.loop-out-preserved
loop-out-preserved g c = (
  made-on g.L.LineRecords.tells c.args.show c.args.form (asking_of c.args.asked.now) c.args.head.now c.args.self.now c.loop-out.self c.push_next.new.self
      c.args.out.now.items c.loop-out.out.items c.push_next.new.out.items c.loop-out.invariant.0 c.in_ok-push_next.ensures.made,
  let fewer = c.in_ok-push_next.ensures.more c.if-branch.true in omega (arith, fewer, c.loop-out.invariant.1),
  c.in_ok-push_next.ensures.noted ∙ c.loop-out.invariant.2,
)

pub returns-then-len-ge-ENOUGH-clause-made : goal.returns-then-len-ge-ENOUGH-clause-made
returns-then-len-ge-ENOUGH-clause-made g c =
    made-on g.L.LineRecords.tells c.args.show c.args.form (asking_of c.args.asked.now) c.args.head.now c.args.self.now c.loop-out.self c.push_next.new.self
    c.args.out.now.items c.loop-out.out.items c.push_next.new.out.items c.loop-out.invariant.0 c.in_ok-push_next.ensures.made

pub returns-clause-made : goal.returns-clause-made
returns-clause-made g c =
    made-on g.L.LineRecords.tells c.args.show c.args.form (asking_of c.args.asked.now) c.args.head.now c.args.self.now c.loop-out.self c.push_next.new.self
    c.args.out.now.items c.loop-out.out.items c.push_next.new.out.items c.loop-out.invariant.0 c.in_ok-push_next.ensures.made

pub returns-clause-over : goal.returns-clause-over
returns-clause-over g c = λ _. c.in_ok-push_next.ensures.over c.if-branch.false

pub returns-then-len-ge-ENOUGH-clause-noted : goal.returns-then-len-ge-ENOUGH-clause-noted
returns-then-len-ge-ENOUGH-clause-noted g c = c.in_ok-push_next.ensures.noted ∙ c.loop-out.invariant.2

pub returns-clause-noted : goal.returns-clause-noted
returns-clause-noted g c = c.in_ok-push_next.ensures.noted ∙ c.loop-out.invariant.2

pub returns-clause-none : goal.returns-clause-none
returns-clause-none g c = λ _. c.in_ok-push_next.ensures.none c.if-branch.false
