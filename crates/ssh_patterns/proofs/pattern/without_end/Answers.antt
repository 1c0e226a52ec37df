use Rattle.ssh_patterns.proofs.Imports.{◌∙◌, ◌-◌, ◌==◌, length, get_or, refl, arith, eq-eqb, folded, question}
use Rattle.ssh_patterns.proofs.EndLemmas.{front-length, last-differs, last-same}
use Rattle.ssh_patterns.proofs.MatchLemmas.{or_left, or_right}
use Rattle.ssh_patterns.proofs.pattern.without_end.Goals.{else-last-ne63-via-then-last-ne63+else-last-fold, else-last-ne63-via-else-last-ne63}
use Rattle.ssh_patterns.proofs.pattern.without_end.Goals as goal

pub returns-then-last-fold-clause-value : goal.returns-then-last-fold-clause-value
returns-then-last-fold-clause-value c =
    c.loop-wanted.invariant.0
    ∙ last-differs (folded c.args.case) c.loop-wanted.wanted.now c.loop-wanted.left.now c.fold-last.result c.fold.result
    (omega arith) (omega arith) c.fold-last.ensures c.fold.ensures c.if-last-eq42.false c.if-last-ne63.true c.if-last-fold.true

pub loop-wanted-preserved : goal.loop-wanted-preserved
loop-wanted-preserved c =
    let f = folded c.args.case in
    let wanted = c.loop-wanted.wanted.now in
    let left = c.loop-wanted.left.now in
    let last = c.fold-last.result in
    let shorter_wanted = front-length wanted (omega arith) in
    let shorter_left = front-length left (omega arith) in (
      c.loop-wanted.invariant.0 ∙ (elim c.else-last-ne63.branch [
        | else-last-ne63-via-then-last-ne63+else-last-fold w ↦
            last-same f wanted left last w.fold.result (omega arith) (omega arith) c.fold-last.ensures w.fold.ensures c.if-last-eq42.false
            (or_right (last == question) (last == w.fold.result) (eq-eqb last w.fold.result w.if-last-fold.false))
        | else-last-ne63-via-else-last-ne63 w ↦
            last-same f wanted left last (f (get_or left (length left - 1) 0)) (omega arith) (omega arith) c.fold-last.ensures refl
            c.if-last-eq42.false
            (or_left (last == question) (last == f (get_or left (length left - 1) 0)) (eq-eqb last question w.if-last-ne63.false))
      ]),
      omega arith,
      omega arith,
    )
