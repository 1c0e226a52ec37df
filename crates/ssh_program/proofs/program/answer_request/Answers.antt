use Rattle.ssh_program.proofs.Imports.{Option, Some, SourceState, IfTells, Review, Subcommand, subst, sym, RespondsBy, RespondsIn, request_in_memory, rows_in}
use Rattle.ssh_program.specs.Printing.{WritesAnswer}
use Rattle.ssh_program.proofs.StreamLemmas.{writes_fault, writes_response}
use Rattle.ssh_program.proofs.program.answer_request.Goals as goal

pub returns-in-None : goal.returns-in-None
returns-in-None g c =
    let rows = rows_in c.args.request.now.words in
    let t = g.F.Files.source_state c.answer_review.new.files in
    let old = g.W.Sink.account c.args.writer.now in
    let new = g.W.Sink.account c.answer_review.new.writer in
    let read = subst (λ (o : Option SourceState). IfTells o (λ s. WritesAnswer (RespondsIn Review rows s t) old new c.answer_review.result)) c.in-None.ensures.1 c.answer_review.ensures in
    subst (λ (b : Subcommand). IfTells (g.F.Files.source_state c.args.files.now) (λ s. WritesAnswer (RespondsIn b rows s t) old new c.answer_review.result)) (sym c.in-None.ensures.0) read

pub returns-in-Some-Ok : goal.returns-in-Some-Ok
returns-in-Some-Ok g c =
    writes_response (λ s. RespondsBy (Some (request_in_memory c.args.request.now)) s (g.F.Files.source_state c.respond_subcommand.new.files)) (g.F.Files.source_state c.args.files.now) c.in-Some-Ok.response
    (g.W.Sink.account c.args.writer.now) (g.W.Sink.account c.put_response.new.writer) c.put_response.result (rw c.in-Some-Ok.field-0-is at c.in-Some-Ok.ensures) c.put_response.ensures

pub returns-in-Some-Err : goal.returns-in-Some-Err
returns-in-Some-Err g c =
    writes_fault (λ s. RespondsBy (Some (request_in_memory c.args.request.now)) s (g.F.Files.source_state c.respond_subcommand.new.files)) (g.F.Files.source_state c.args.files.now) c.in-Some-Err.fault c.respond_fault.result
    (g.W.Sink.account c.args.writer.now) (g.W.Sink.account c.put_made.new.writer) c.put_made.result (rw c.in-Some-Err.field-0-is at c.in-Some-Err.ensures) c.respond_fault.ensures c.put_made.ensures
