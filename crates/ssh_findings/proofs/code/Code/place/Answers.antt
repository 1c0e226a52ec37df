use Rattle.ssh_findings.proofs.CodeCountLemmas.{place-few}
use Rattle.ssh_findings.proofs.code.Code.place.Goals as goal

pub returns-clause-few : goal.returns-clause-few
returns-clause-few c = place-few c.args.self
