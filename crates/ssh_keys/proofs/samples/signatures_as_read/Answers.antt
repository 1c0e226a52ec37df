use Rattle.ssh_keys.proofs.Imports.{signature_samples_read}
use Rattle.ssh_keys.proofs.samples.signatures_as_read.Goals as goal

pub returns : goal.returns
returns c = signature_samples_read
