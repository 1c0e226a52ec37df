use Rattle.ssh_program.proofs.Imports.{Err, response, question_of}
use Rattle.ssh_program.proofs.SshsigLemmas.{message_passed, message_unread}
use Rattle.ssh_program.proofs.sshsig.respond_refused.Goals as goal

pub returns-in-Ok : goal.returns-in-Ok
returns-in-Ok g c =
    message_passed response (question_of c.args.question.now) c.args.vouching.now c.args.refusal
    (g.F.Files.source_state c.args.files.now) (g.F.Files.source_state c.read_past.new.files) c.sshsig_response.result
    c.in-Ok.ensures.bytes c.sshsig_response.ensures

pub returns-in-Err : goal.returns-in-Err
returns-in-Err g c =
    message_unread response (question_of c.args.question.now) c.args.vouching.now (Err c.args.refusal)
    (g.F.Files.source_state c.args.files.now) (g.F.Files.source_state c.read_past.new.files) c.in-Err.fault c.unread.result
    c.in-Err.ensures.bytes c.unread.ensures
