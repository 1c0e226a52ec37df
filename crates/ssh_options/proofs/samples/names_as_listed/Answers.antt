use Rattle.ssh_options.proofs.Imports.{all_names_are_listed}
use Rattle.ssh_options.proofs.samples.names_as_listed.Goals as goal

pub returns : goal.returns
returns c = all_names_are_listed
