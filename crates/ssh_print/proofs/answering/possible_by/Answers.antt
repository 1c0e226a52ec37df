use Rattle.ssh_print.proofs.Imports.{ℕ, ◌+◌, ◌∷◌, ◌∙◌, ap, sym, drop, at_drop_more, lines_of, numbered, Reason}
use Rattle.ssh_print.specs.ReasonLines.{possible_by}
use Rattle.ssh_print.proofs.ReasonLemmas.{reason_next}
use Rattle.ssh_print.proofs.answering.possible_by.Goals as goal

pub loop-reason-preserved : goal.loop-reason-preserved
loop-reason-preserved c =
    let lines = numbered (c.loop-reason.lines).0 (lines_of (c.loop-reason.lines).1) in
    let after = numbered (c.line_from-line.new.lines).0 (lines_of (c.line_from-line.new.lines).1) in
    reason_next c.args.matcher.now c.loop-reason.found.items c.push_line.new.found.items lines after
    (drop c.loop-reason.reason-index c.args.reasons.now) (drop (c.loop-reason.reason-index + 1) c.args.reasons.now) c.reason-item.result
    c.line_from-line.result.now c.in_ok-why.why (possible_by c.args.matcher.now (numbered 1 (lines_of c.args.file.now)) c.args.reasons.now)
    (at_drop_more (possible_by c.args.matcher.now lines) c.args.reasons.now c.loop-reason.reason-index _ c.loop-reason-test.true
    ∙ ap (λ (r : ℕ × Reason). possible_by c.args.matcher.now lines (r ∷ drop (c.loop-reason.reason-index + 1) c.args.reasons.now)) (sym c.reason-item.is))
    c.line_from-line.ensures.line c.line_from-line.ensures.rest c.in_ok-why.ensures c.in_ok-push_line.ensures c.loop-reason.invariant
