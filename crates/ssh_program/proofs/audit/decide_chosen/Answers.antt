use Rattle.ssh_program.proofs.Imports.{ap}
use Rattle.ssh_program.proofs.ChosenLemmas.{either_way, where_refused}
use Rattle.ssh_program.proofs.audit.decide_chosen.Goals as goal

pub returns-clause-same : goal.returns-clause-same
returns-clause-same g c = either_way c.decide.result (λ failed. (c.decide.ensures.read failed).0) (λ other. (c.decide.ensures.unfailed other).0)

pub returns-clause-unread : goal.returns-clause-unread
returns-clause-unread g c =
    where_refused (g.Q.Question.decides c.args.question.now) (λ same. ap (λ f. g.F.Files.source_state f.files.now) same) c.decide.ensures.unread
