use Rattle.ssh_rewriting.proofs.Imports.{auth_files_written, hashed_files_written, known_files_written}
use Rattle.ssh_rewriting.proofs.laws.files_as_written.Goals as goal

pub returns : goal.returns
returns c = record {
  auth = auth_files_written;
  known = known_files_written;
  hashed = hashed_files_written;
}
