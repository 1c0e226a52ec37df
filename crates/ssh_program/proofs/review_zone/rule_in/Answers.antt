use Rattle.ssh_program.proofs.ZoneLemmas.{stripped, unstripped}
use Rattle.ssh_program.specs.ReviewZones.{local_mark}
use Rattle.ssh_program.proofs.review_zone.rule_in.Goals as goal

pub returns-in-Some : goal.returns-in-Some
returns-in-Some c = stripped local_mark c.args.text.now c.in-Some.rule.now c.in-Some.ensures.cases

pub returns-in-None : goal.returns-in-None
returns-in-None c = unstripped local_mark c.args.text.now c.in-None.ensures.cases
