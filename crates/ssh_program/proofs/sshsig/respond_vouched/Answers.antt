use Rattle.ssh_program.proofs.Imports.{rules, response, question_of}
use Rattle.ssh_program.proofs.SshsigLemmas.{body_responds, body_unread}
use Rattle.ssh_program.proofs.sshsig.respond_vouched.Goals as goal

pub returns-in-Ok : goal.returns-in-Ok
returns-in-Ok g c =
    body_responds response (question_of c.args.question.now) c.args.vouching.now c.in-Ok.body.items c.deref.result.now
    (g.F.Files.source_state c.args.files.now) (g.F.Files.source_state c.read_front.new.files) (g.F.Files.source_state c.respond_body.new.files) c.respond_body.result
    (search rules) c.in-Ok.ensures.bytes c.respond_body.ensures

pub returns-in-Err : goal.returns-in-Err
returns-in-Err g c =
    body_unread response (question_of c.args.question.now) c.args.vouching.now
    (g.F.Files.source_state c.args.files.now) (g.F.Files.source_state c.read_front.new.files) c.in-Err.fault c.unread.result
    c.in-Err.ensures.bytes c.unread.ensures
