use Rattle.ssh_rewriting.proofs.Imports.{auth_samples_written, known_samples_written}
use Rattle.ssh_rewriting.proofs.laws.entries_as_written.Goals as goal

pub returns : goal.returns
returns c = record {
  auth = auth_samples_written;
  known = known_samples_written;
}
