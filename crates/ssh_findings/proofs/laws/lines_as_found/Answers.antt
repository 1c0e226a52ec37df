use Rattle.ssh_findings.proofs.Imports.{entries_found, revocations_found}
use Rattle.ssh_findings.proofs.laws.lines_as_found.Goals as goal

pub returns : goal.returns
returns c = record { entries = entries_found; revocations = revocations_found }
