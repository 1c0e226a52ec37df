use Rattle.ssh_findings.proofs.KeepingLemmas.{repeat_none, repeat_some}
use Rattle.ssh_findings.proofs.earlier.Earlier.repeat.Goals as goal

pub returns-in-Some : goal.returns-in-Some
returns-in-Some c = λ held s.
    repeat_some c.args.self.now held c.args.blob.now c.args.facts.now c.in-Some.kept.now c.repeat_by.result s c.in-Some.ensures c.repeat_by.ensures

pub returns-in-None : goal.returns-in-None
returns-in-None c = λ held s. repeat_none c.args.self.now held c.args.blob.now c.args.facts.now s c.in-None.ensures
