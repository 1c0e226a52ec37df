use Rattle.ssh_text.proofs.Imports.{file_samples_read, piece_samples_read}
use Rattle.ssh_text.proofs.laws.files_as_cut.Goals as goal

pub returns : goal.returns
returns c = record { files = file_samples_read; pieces = piece_samples_read }
