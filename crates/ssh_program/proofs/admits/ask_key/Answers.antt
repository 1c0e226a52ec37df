use Rattle.ssh_program.proofs.Imports.{map, rules, response}
use Rattle.ssh_program.proofs.AdmissionLemmas.{key_asked, key_unasked}
use Rattle.ssh_program.proofs.admits.ask_key.Goals as goal

pub returns-in-Ok : goal.returns-in-Ok
returns-in-Ok g c =
    key_asked response (g.K.KeyQuestion.asks c.args.question.now) c.args.key.now c.in-Ok.line.items c.deref.result.now (map (λ name. name.now) c.args.names.now)
    (g.F.Files.source_state c.args.files.now) (g.F.Files.source_state c.read_top_line.new.files) (g.F.Files.source_state c.ask_line.new.files) c.ask_line.result
    (search rules) c.in-Ok.ensures.bytes c.in-Ok.ensures.others c.ask_line.ensures

pub returns-in-Err : goal.returns-in-Err
returns-in-Err g c =
    key_unasked response (g.K.KeyQuestion.asks c.args.question.now) c.args.key.now (map (λ name. name.now) c.args.names.now)
    (g.F.Files.source_state c.args.files.now) (g.F.Files.source_state c.read_top_line.new.files) c.in-Err.fault c.unread.result
    c.in-Err.ensures.bytes c.in-Err.ensures.others c.unread.ensures
