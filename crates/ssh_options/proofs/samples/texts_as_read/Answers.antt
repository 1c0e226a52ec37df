use Rattle.ssh_options.proofs.Imports.{text_samples_read}
use Rattle.ssh_options.proofs.samples.texts_as_read.Goals as goal

pub returns : goal.returns
returns c = text_samples_read
