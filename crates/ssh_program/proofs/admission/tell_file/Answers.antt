use Rattle.ssh_program.proofs.Imports.{rules, reported_seen}
use Rattle.ssh_program.proofs.AdmissionLemmas.{file_reported, file_unread}
use Rattle.ssh_program.proofs.admission.tell_file.Goals as goal

pub returns-in-Ok : goal.returns-in-Ok
returns-in-Ok g c =
    file_reported reported_seen c.args.who (g.Q.Question.decides c.args.question.now) (g.Q.FileQuestion.beside c.args.question.now) c.args.evidence.now
    c.args.name.now c.in-Ok.file.items c.deref.result.now
    (g.F.Files.source_state c.args.files.now) (g.F.Files.source_state c.read_whole.new.files) c.tell_bytes.result
    (search rules) c.in-Ok.ensures.bytes c.in-Ok.ensures.others (search rules)

pub returns-in-Err : goal.returns-in-Err
returns-in-Err g c =
    file_unread reported_seen c.args.who (g.Q.Question.decides c.args.question.now) (g.Q.FileQuestion.beside c.args.question.now) c.args.evidence.now c.args.name.now
    (g.F.Files.source_state c.args.files.now) (g.F.Files.source_state c.read_whole.new.files) c.in-Err.fault c.tell_unread.result
    c.in-Err.ensures.bytes c.in-Err.ensures.others (search rules)
