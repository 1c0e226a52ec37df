use Rattle.ssh_program.proofs.Imports.{files_seen, response, TellsOf, first_resting, second_resting}
use Rattle.ssh_program.proofs.AuditLemmas.{vouch_responds, vouch_unread}
use Rattle.ssh_program.proofs.audit.respond_wanted.Goals as goal

pub returns-in-Ok : goal.returns-in-Ok
returns-in-Ok g c =
    let evidence = c.args.evidence.now in
    vouch_responds response (files_seen c.args.names.now) (g.Q.Question.decides c.args.question.now) c.args.name.now
    (λ file. TellsOf (first_resting evidence) (second_resting evidence) file c.in-Ok.reported)
    (g.F.Files.source_state c.args.files.now) (g.F.Files.source_state c.seek_vouched.new.files) (g.F.Files.source_state c.respond_reported.new.files) c.respond_reported.result
    c.requires.vouch (rw (c.first_two.ensures.first, c.first_two.ensures.second) at c.in-Ok.ensures.bytes) c.respond_reported.ensures

pub returns-in-Err : goal.returns-in-Err
returns-in-Err g c =
    vouch_unread response (files_seen c.args.names.now) (g.Q.Question.decides c.args.question.now) c.args.name.now
    (g.F.Files.source_state c.args.files.now) (g.F.Files.source_state c.seek_vouched.new.files) c.in-Err.fault c.unread.result
    c.requires.vouch c.in-Err.ensures.bytes c.unread.ensures
