use Rattle.ssh_review.proofs.Imports.{◌∙◌, asking_of, refl}
use Rattle.ssh_review.specs.declared.show.Show.TheVariants.{All}
use Rattle.ssh_review.proofs.MakingLemmas.{all-appended, keys-over, made-on, nothing-made}
use Rattle.ssh_review.proofs.records.push_all.Goals as goal

pub loop-records-init : goal.loop-records-init
loop-records-init g c = (nothing-made g.L.LineRecords.tells All c.args.form (asking_of c.args.asked.now) c.args.head.now c.args.begun c.args.out.now.items, refl)

pub loop-records-preserved : goal.loop-records-preserved
loop-records-preserved g c = (
  made-on g.L.LineRecords.tells All c.args.form (asking_of c.args.asked.now) c.args.head.now c.args.begun c.loop-records.records c.push_some.new.self
      c.args.out.now.items c.loop-records.out.items c.push_some.new.out.items c.loop-records.invariant.0 c.in_ok-push_some.ensures.made,
  c.in_ok-push_some.ensures.noted ∙ c.loop-records.invariant.1,
)

pub returns-clause-noted : goal.returns-clause-noted
returns-clause-noted g c =
    keys-over g.L.LineRecords.keys_on _ c.push_some.new.keys _ (c.in_ok-push_some.ensures.none c.if-branch.false) (c.in_ok-push_some.ensures.noted ∙ c.loop-records.invariant.1)

pub returns-clause-made : goal.returns-clause-made
returns-clause-made g c =
    let tells = g.L.LineRecords.tells in
    let asking = asking_of c.args.asked.now in
    let makes = made-on tells All c.args.form asking c.args.head.now c.args.begun c.loop-records.records c.push_some.new.self c.args.out.now.items c.loop-records.out.items c.push_some.new.out.items
    c.loop-records.invariant.0 c.in_ok-push_some.ensures.made in
    λ file text all w.
    all-appended tells All c.args.form asking c.args.head.now file text c.args.out.now.items c.push_some.new.out.items all c.args.begun c.push_some.new.self makes
    (c.in_ok-push_some.ensures.over c.if-branch.false) w
