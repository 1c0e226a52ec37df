use Rattle.ssh_program.proofs.Imports.{rules, response, question_of}
use Rattle.ssh_program.proofs.SshsigLemmas.{words_signed}
use Rattle.ssh_program.proofs.sshsig.respond_signature.Goals as goal

pub returns-in-None : goal.returns-in-None
returns-in-None g c =
    words_signed response (question_of c.args.question.now) (g.F.Files.source_state c.args.files.now) (g.F.Files.source_state c.respond_vouched.new.files) c.respond_vouched.result
    (search rules) c.respond_vouched.ensures
