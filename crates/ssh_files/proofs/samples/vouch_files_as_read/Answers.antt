use Rattle.ssh_files.proofs.Imports.{vouch_files_read, vouch_files_refused}
use Rattle.ssh_files.proofs.samples.vouch_files_as_read.Goals as goal

pub returns : goal.returns
returns c = record { read = vouch_files_read; refused = vouch_files_refused }
