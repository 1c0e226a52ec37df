use Rattle.ssh_entries.proofs.Imports.{field_samples_read}
use Rattle.ssh_entries.proofs.laws.fields_as_read.Goals as goal

pub returns : goal.returns
returns c = field_samples_read
