use Rattle.ssh_keys.proofs.Imports.{key_samples_read}
use Rattle.ssh_keys.proofs.samples.keys_as_read.Goals as goal

pub returns : goal.returns
returns c = key_samples_read
