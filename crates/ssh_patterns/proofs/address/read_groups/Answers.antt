use Rattle.ssh_patterns.proofs.Imports.{◌∙◌, sym, ap, Some, length, arith, eqb-false}
use Rattle.std.proofs.Common.{eqb-true}
use Rattle.ssh_patterns.proofs.CutLemmas.{parts-cut}
use Rattle.ssh_patterns.proofs.PartLemmas.{groups-empty, groups-start, turn-none, turn-full, turn-next, turn-last}
use Rattle.ssh_patterns.proofs.address.read_groups.Goals as goal

pub returns-then-is_empty : goal.returns-then-is_empty
returns-then-is_empty c =
    ap (λ g. Some g) c.zeros-groups.ensures ∙ sym (groups-empty c.args.dotted_too c.args.text.now (eqb-true (length c.args.text.now) 0 (sym c.if-is_empty.ensures)))

pub loop-part-init : goal.loop-part-init
loop-part-init c =
    let some = eqb-false (length c.args.text.now) 0 (sym c.if-is_empty.ensures) in
    rw c.zeros-groups.ensures (groups-start c.args.dotted_too c.args.text.now (omega (arith, some)))

pub returns-in_err-group : goal.returns-in_err-group
returns-in_err-group c =
    c.from_residual.ensures
    ∙ sym (turn-none c.args.dotted_too c.loop-part.groups c.loop-part.rest.now c.in-Some.part.now c.in-Some.after.now
    c.in-Some.ensures c.in_err-group.ensures)
    ∙ c.loop-part.invariant

pub returns-in_err-groups : goal.returns-in_err-groups
returns-in_err-groups c =
    let full = rw c.one.ensures at c.in_err-groups.ensures in
    c.from_residual-in_err-groups.ensures
    ∙ sym (turn-full c.args.dotted_too c.loop-part.groups c.loop-part.rest.now c.in-Some.part.now c.in-Some.after.now
    c.in_ok-group.field-0 c.in-Some.ensures c.in_ok-group.ensures full)
    ∙ c.loop-part.invariant

pub loop-part-smaller : goal.loop-part-smaller
loop-part-smaller c =
    omega (arith, (parts-cut 58 c.loop-part.rest.now c.in-Some.part.now c.in-Some.after.now (sym c.in-Some.ensures)).shorter)

pub loop-part-preserved : goal.loop-part-preserved
loop-part-preserved c =
    let fits = rw c.one.ensures at c.in_ok-groups.ensures in
    sym (turn-next c.args.dotted_too c.loop-part.groups c.loop-part.rest.now c.in-Some.part.now c.in-Some.after.now
    c.in_ok-groups.groups c.in_ok-group.field-0 c.in-Some.ensures c.in_ok-group.ensures fits)
    ∙ c.loop-part.invariant

pub returns-in_err-last_groups : goal.returns-in_err-last_groups
returns-in_err-last_groups c =
    let uncut = rw c.in_default.is at c.cut.ensures in
    c.from_residual-in_err-last_groups.ensures
    ∙ rw (← c.in_err-last_groups.ensures) at
    (sym (turn-last c.args.dotted_too c.loop-part.groups c.loop-part.rest.now uncut) ∙ c.loop-part.invariant)

pub returns : goal.returns
returns c =
    let uncut = rw c.in_default.is at c.cut.ensures in
    c.followed_by-2.ensures
    ∙ rw (← c.in_ok-last_groups.ensures) at
    (sym (turn-last c.args.dotted_too c.loop-part.groups c.loop-part.rest.now uncut) ∙ c.loop-part.invariant)
