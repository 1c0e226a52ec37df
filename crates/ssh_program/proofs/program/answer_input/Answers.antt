use Rattle.ssh_program.proofs.Imports.{subst, WritesResponse, WordsError}
use Rattle.ssh_program.specs.Requests.{words_response}
use Rattle.ssh_program.proofs.ResponseLemmas.{line_responds, unread_responds}
use Rattle.ssh_program.proofs.program.answer_input.Goals as goal

pub returns-in-Ok : goal.returns-in-Ok
returns-in-Ok g c =
    line_responds (λ v. v.items) c.deref.result.now (g.F.Files.source_state c.args.files.now) (g.F.Files.source_state c.read_first_line.new.files) (g.F.Files.source_state c.answer_line.new.files)
    c.in-Ok.line (g.W.Sink.account c.args.writer.now) (g.W.Sink.account c.answer_line.new.writer) c.answer_line.result c.deref.ensures.value c.in-Ok.ensures c.answer_line.ensures

pub returns-in-Err : goal.returns-in-Err
returns-in-Err g c =
    let old = g.W.Sink.account c.args.writer.now in
    let new = g.W.Sink.account c.refuse.new.writer in
    unread_responds (g.F.Files.source_state c.args.files.now) (g.F.Files.source_state c.read_first_line.new.files) c.in-Err.fault old new c.refuse.result c.in-Err.ensures
    (subst (λ (e : WordsError). WritesResponse old new (words_response e) c.refuse.result) c.line_fault.ensures c.refuse.ensures)
