use Rattle.ssh_program.proofs.Imports.{rules, response, question_of}
use Rattle.ssh_program.proofs.SshsigLemmas.{vouch_file_responds, vouch_file_unread}
use Rattle.ssh_program.proofs.sshsig.respond_held.Goals as goal

pub returns-in-Ok : goal.returns-in-Ok
returns-in-Ok g c =
    vouch_file_responds response (question_of c.args.question.now) c.args.name.now c.in-Ok.bytes.items c.deref.result.now
    (g.F.Files.source_state c.args.files.now) (g.F.Files.source_state c.read_vouch_file.new.files) (g.F.Files.source_state c.respond_vouch_bytes.new.files) c.respond_vouch_bytes.result
    c.requires (search rules) c.in-Ok.ensures.bytes c.respond_vouch_bytes.ensures

pub returns-in-Err : goal.returns-in-Err
returns-in-Err g c =
    vouch_file_unread response (question_of c.args.question.now) c.args.name.now
    (g.F.Files.source_state c.args.files.now) (g.F.Files.source_state c.read_vouch_file.new.files) c.in-Err.fault c.unread.result
    c.requires c.in-Err.ensures.bytes c.unread.ensures
