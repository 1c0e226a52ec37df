use Rattle.ssh_findings.proofs.Imports.{forms_seen}
use Rattle.ssh_findings.proofs.laws.forms_as_seen.Goals as goal

pub returns : goal.returns
returns c = forms_seen
