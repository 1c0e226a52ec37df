use Rattle.ssh_files.proofs.Imports.{parts_read, words_read}
use Rattle.ssh_files.proofs.samples.words_as_read.Goals as goal

pub returns : goal.returns
returns c = record { words = words_read; parts = parts_read }
