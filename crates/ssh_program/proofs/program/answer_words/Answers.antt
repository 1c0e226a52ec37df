use Rattle.ssh_program.proofs.Imports.{Some, map, request_of, request_in_memory}
use Rattle.ssh_program.proofs.ResponseLemmas.{nothing_responds, request_responds}
use Rattle.ssh_program.proofs.program.answer_words.Goals as goal

pub returns-in-Ok : goal.returns-in-Ok
returns-in-Ok g c =
    request_responds (request_of (map g.S.AsStr.text c.args.words.now)) (Some (request_in_memory c.in-Ok.request))
    (g.F.Files.source_state c.args.files.now) (g.F.Files.source_state c.answer_request.new.files)
    (g.W.Sink.account c.args.writer.now) (g.W.Sink.account c.answer_request.new.writer) c.answer_request.result c.in-Ok.ensures c.answer_request.ensures

pub returns-in-Err : goal.returns-in-Err
returns-in-Err g c =
    nothing_responds (map g.S.AsStr.text c.args.words.now) c.in-Err.fault (g.F.Files.source_state c.args.files.now)
    (g.W.Sink.account c.args.writer.now) (g.W.Sink.account c.refuse.new.writer) c.refuse.result c.in-Err.ensures c.refuse.ensures
