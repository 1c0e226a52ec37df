use Rattle.ssh_program.proofs.Imports.{◌≡◌, ◌∙◌, List, ℕ, ap, refl, subst, err_from_is_err_and, Breaks, TakesAll}
use Rattle.ssh_review.specs.Forms.{file_fault_line}
use Rattle.ssh_review.specs.Reviews.{Review, fault_review}
use Rattle.ssh_program.specs.FileReviews.{review_kept}
use Rattle.ssh_program.proofs.PutLemmas.{put-nothing}
use Rattle.ssh_program.proofs.WrittenText.{none_failed}
use Rattle.ssh_program.proofs.streaming.put_fault_end.Goals as goal

pub returns-in_err-reviewed-clause-failed : goal.returns-in_err-reviewed-clause-failed
returns-in_err-reviewed-clause-failed g c = let p = err_from_is_err_and c.from_residual.result c.from_residual.ensures.1 in rw (p.1, p.2) c.requires

pub returns-in_err-reviewed-clause-put : goal.returns-in_err-reviewed-clause-put
returns-in_err-reviewed-clause-put g c =
    let p = err_from_is_err_and c.from_residual.result c.from_residual.ensures.1 in
    rw (p.1, p.2) (put-nothing (file_fault_line c.args.form c.args.head.now c.args.fault) (review_kept (fault_review c.args.form c.args.head.now c.args.fault)) (g.W.Sink.account c.args.writer.now))

pub returns-in_err-put_lines-clause-failed : goal.returns-in_err-put_lines-clause-failed
returns-in_err-put_lines-clause-failed g c =
    let p = err_from_is_err_and c.from_residual-in_err-put_lines.result c.from_residual-in_err-put_lines.ensures.1 in rw (p.1, p.2) tt

pub returns-in_err-put_lines-clause-put : goal.returns-in_err-put_lines-clause-put
returns-in_err-put_lines-clause-put g c =
    let p = err_from_is_err_and c.from_residual-in_err-put_lines.result c.from_residual-in_err-put_lines.ensures.1 in
    let is : c.deref.result.now ≡ file_fault_line c.args.form c.args.head.now c.args.fault = c.deref.ensures.value ∙ ap (λ (r : Review). r.text) c.in_ok-reviewed.ensures in
    rw (p.1, p.2) (subst (λ (l : List ℕ). Breaks (g.W.Sink.account c.args.writer.now) (g.W.Sink.account c.put_lines.new.writer) l) is c.in_err-put_lines.ensures.err)

pub returns-clause-failed : goal.returns-clause-failed
returns-clause-failed g c = none_failed (g.W.Sink.account c.args.writer.now) (g.W.Sink.account c.put_lines.new.writer) c.deref.result.now c.in_ok-put_lines.ensures.ok c.requires

pub returns-clause-put : goal.returns-clause-put
returns-clause-put g c =
    let is : c.deref.result.now ≡ file_fault_line c.args.form c.args.head.now c.args.fault = c.deref.ensures.value ∙ ap (λ (r : Review). r.text) c.in_ok-reviewed.ensures in
    (subst (λ (l : List ℕ). TakesAll (g.W.Sink.account c.args.writer.now) (g.W.Sink.account c.put_lines.new.writer) l) is c.in_ok-put_lines.ensures.ok, refl)
