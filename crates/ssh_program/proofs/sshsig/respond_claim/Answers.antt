use Rattle.ssh_program.proofs.Imports.{Ok, sshsig_claim_of, response, question_of}
use Rattle.ssh_program.proofs.SshsigLemmas.{message_responds, message_unread}
use Rattle.ssh_program.proofs.sshsig.respond_claim.Goals as goal

pub returns-in-Ok : goal.returns-in-Ok
returns-in-Ok g c =
    message_responds response (question_of c.args.question.now) c.args.vouching.now (sshsig_claim_of c.args.claim.now) c.in-Ok.digest
    (g.F.Files.source_state c.args.files.now) (g.F.Files.source_state c.read_message.new.files) (g.F.Files.source_state c.respond_digest.new.files) c.respond_digest.result
    c.in-Ok.ensures c.respond_digest.ensures

pub returns-in-Err : goal.returns-in-Err
returns-in-Err g c =
    message_unread response (question_of c.args.question.now) c.args.vouching.now (Ok (sshsig_claim_of c.args.claim.now))
    (g.F.Files.source_state c.args.files.now) (g.F.Files.source_state c.read_message.new.files) c.in-Err.fault c.unread.result
    c.in-Err.ensures c.unread.ensures
