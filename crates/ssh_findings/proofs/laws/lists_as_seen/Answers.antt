use Rattle.ssh_findings.proofs.Imports.{lists_seen}
use Rattle.ssh_findings.proofs.laws.lists_as_seen.Goals as goal

pub returns : goal.returns
returns c = lists_seen
