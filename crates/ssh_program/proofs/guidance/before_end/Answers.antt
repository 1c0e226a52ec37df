use Rattle.ssh_program.proofs.Imports.{◌∙◌}
use Rattle.ssh_program.specs.Guidance.{is_end}
use Rattle.ssh_program.proofs.GuidanceLemmas.{found_front, whole_front}
use Rattle.ssh_program.proofs.guidance.before_end.Goals as goal

pub returns-in-Some : goal.returns-in-Some
returns-in-Some c = c.split_at.ensures.front ∙ found_front is_end c.args.text.now c.in-Some.place c.in-Some.ensures.place

pub returns-in-None : goal.returns-in-None
returns-in-None c = whole_front is_end c.args.text.now c.in-None.ensures.place
