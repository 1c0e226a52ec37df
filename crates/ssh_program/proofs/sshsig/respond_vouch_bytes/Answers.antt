use Rattle.ssh_program.proofs.Imports.{rules, response, question_of}
use Rattle.ssh_program.proofs.SshsigLemmas.{held_responds}
use Rattle.ssh_program.proofs.sshsig.respond_vouch_bytes.Goals as goal

pub returns-in-Ok : goal.returns-in-Ok
returns-in-Ok g c =
    held_responds response (question_of c.args.question.now) c.args.bytes.now c.in-Ok.vouches
    (g.F.Files.source_state c.args.files.now) (g.F.Files.source_state c.respond_vouched.new.files) c.respond_vouched.result
    (search rules) c.respond_vouched.ensures
