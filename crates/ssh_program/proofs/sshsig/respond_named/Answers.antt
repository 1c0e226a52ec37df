use Rattle.ssh_program.proofs.Imports.{response, question_of}
use Rattle.ssh_program.proofs.SshsigLemmas.{named_faulty, named_responds, vouch_file_unread}
use Rattle.ssh_program.proofs.sshsig.respond_named.Goals as goal

pub returns-in-Ok-Ok : goal.returns-in-Ok-Ok
returns-in-Ok-Ok g c =
    named_responds response (question_of c.args.question.now) c.args.name c.in-Ok-Ok.field-0-0
    (g.F.Files.source_state c.args.files.now) (g.F.Files.source_state c.seek_vouched.new.files) (g.F.Files.source_state c.respond_vouched.new.files) c.respond_vouched.result
    c.requires.vouch c.requires.named (rw c.in-Ok-Ok.field-0-is at c.in-Ok-Ok.ensures.bytes) c.respond_vouched.ensures

pub returns-in-Ok-Err : goal.returns-in-Ok-Err
returns-in-Ok-Err g c =
    named_faulty response (question_of c.args.question.now) c.args.name.now c.in-Ok-Err.number
    (g.F.Files.source_state c.args.files.now) (g.F.Files.source_state c.seek_vouched.new.files) c.vouch_fault.result
    c.requires.vouch (rw c.in-Ok-Err.field-0-is at c.in-Ok-Err.ensures.bytes) c.vouch_fault.ensures

pub returns-in-Err : goal.returns-in-Err
returns-in-Err g c =
    vouch_file_unread response (question_of c.args.question.now) c.args.name.now
    (g.F.Files.source_state c.args.files.now) (g.F.Files.source_state c.seek_vouched.new.files) c.in-Err.fault c.unread.result
    c.requires.vouch c.in-Err.ensures.bytes c.unread.ensures
