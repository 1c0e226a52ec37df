use Rattle.ssh_program.proofs.Imports.{rules}
use Rattle.ssh_program.proofs.OthersLemmas.{others_kept}
use Rattle.ssh_program.proofs.ChosenLemmas.{file_decided}
use Rattle.ssh_program.proofs.audit.decide_by_file.Goals as goal

pub returns-clause-answer : goal.returns-clause-answer
returns-clause-answer g c =
    file_decided (g.Q.Question.decides c.args.question.now) c.args.vouched.now c.args.name.now
    (g.F.Files.source_state c.args.files.now) (g.F.Files.source_state c.choose.new.self) (g.F.Files.source_state c.decide_chosen.new.file.files.now) _
    c.choose.result c.decide_chosen.result c.if-not-choose.false c.choose.ensures.there c.choose.ensures.chosen (search rules)
    (search rules) (search rules) (search rules) (search rules)

pub returns-clause-others : goal.returns-clause-others
returns-clause-others g c =
    others_kept c.args.name.now
    (g.F.Files.source_state c.args.files.now) (g.F.Files.source_state c.choose.new.self) (g.F.Files.source_state c.decide_chosen.new.file.files.now) _
    c.decide_chosen.result c.choose.ensures.chosen (search rules) (search rules) (search rules)
