use Rattle.ssh_patterns.proofs.Imports.{◌∙◌, sym, map, folded}
use Rattle.ssh_patterns.proofs.TurnLemmas.{going-start, going-star, going-byte, text-end}
use Rattle.ssh_patterns.proofs.pattern.matches_from_front.Goals as goal

pub loop-rest-init : goal.loop-rest-init
loop-rest-init c = going-start (map (folded c.args.case) c.args.pattern.now) (map (folded c.args.case) c.args.text.now)

pub loop-rest-preserved-in-Some : goal.loop-rest-preserved-in-Some
loop-rest-preserved-in-Some c = going-star _ _ _ _ _ _ _ _ c.loop-rest.invariant (sym c.in-Some.ensures)

pub loop-rest-preserved-in-Some-after_byte : goal.loop-rest-preserved-in-Some-after_byte
loop-rest-preserved-in-Some-after_byte c =
    going-byte _ _ _ _ _ _ _ _ _ c.loop-rest.invariant (sym c.in_default.ensures) (sym c.in-Some-after_byte.ensures)

pub returns-then-is_empty-clause-value : goal.returns-then-is_empty-clause-value
returns-then-is_empty-clause-value c =
    c.is_empty-then-is_empty.ensures
    ∙ text-end (folded c.args.case) _ _ _ _ _ c.loop-rest.wanted.now c.loop-rest.left.now c.loop-rest.invariant
    (sym c.in_default.ensures) (sym c.if-is_empty.ensures)
