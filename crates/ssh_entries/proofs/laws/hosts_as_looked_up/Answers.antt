use Rattle.ssh_entries.proofs.Imports.{looked_up_names}
use Rattle.ssh_entries.proofs.laws.hosts_as_looked_up.Goals as goal

pub returns : goal.returns
returns c = looked_up_names
