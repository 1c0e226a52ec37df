use Rattle.ssh_program.proofs.Imports.{ℕ, Ok, question_of, sshsig_question, rows_in, response, Signs}
use Rattle.ssh_program.proofs.AnsweredLemmas.{spelled_responds}
use Rattle.ssh_program.proofs.sshsig.respond_sshsig.Goals as goal

pub returns : goal.returns
returns g c =
    spelled_responds {E = ℕ} Signs response (sshsig_question (rows_in c.args.words.now)) (question_of c.in_ok-question.question)
    (g.F.Files.source_state c.args.files.now) (g.F.Files.source_state c.respond_signature.new.files) (Ok c.in_ok-response.response)
    c.in_ok-question.ensures c.in_ok-response.ensures
