use Rattle.ssh_program.proofs.Imports.{◌∙◌, List, ℕ, inl, inr, refl, subst, asking_of, WritesResponse}
use Rattle.ssh_print.specs.Responses.{Response, out_of_memory}
use Rattle.ssh_review.specs.Forms.{total_line}
use Rattle.ssh_program.specs.FileReviews.{kind_name}
use Rattle.ssh_program.proofs.streaming.put_total.Goals as goal

pub returns-in-Ok : goal.returns-in-Ok
returns-in-Ok g c =
    let old = g.W.Sink.account c.args.writer.now in
    let new = g.W.Sink.account c.put_whole.new.writer in
    let last : Response = record { status = c.args.status; text = total_line c.args.form (kind_name c.args.kind) c.args.rule.now (asking_of c.args.asked.now) c.args.total.now } in
    (last, inl refl, subst (λ (l : List ℕ). WritesResponse old new (record { status = c.args.status; text = l }) c.put_whole.result) (c.deref.ensures.value ∙ (rw c.kind_name.ensures at c.in-Ok.ensures)) c.put_whole.ensures)

pub returns-in-Err : goal.returns-in-Err
returns-in-Err g c = (out_of_memory, inr refl, c.put_no_memory.ensures)
