use Rattle.ssh_program.proofs.Imports.{rules, response}
use Rattle.ssh_program.proofs.KeptLemmas.{found_responds}
use Rattle.ssh_program.proofs.audit.respond_reported.Goals as goal

pub returns-in-Ok : goal.returns-in-Ok
returns-in-Ok g c file tells =
    found_responds response (g.Q.Question.decides c.args.question.now) (g.Q.Question.rests_on c.args.question.now)
    c.args.evidence.now c.kept.result.now c.in-Ok.found c.args.names.now.trust.now file
    (g.F.Files.source_state c.args.files.now) (g.F.Files.source_state c.respond_vouched.new.files) c.respond_vouched.result
    c.requires.rests c.requires.evidence c.kept.ensures (search rules) c.respond_vouched.ensures
