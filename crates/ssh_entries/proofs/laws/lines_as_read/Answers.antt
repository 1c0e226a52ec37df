use Rattle.ssh_entries.proofs.Imports.{known_samples_read, known_faults_read, revocations_read, long_known_lines_read, entry_samples_read, examples_read, every_option_read, option_faults_read, key_faults_read, long_lines_read}
use Rattle.ssh_entries.proofs.laws.lines_as_read.Goals as goal

pub returns : goal.returns
returns c = record {
  entries = entry_samples_read;
  examples = examples_read;
  every_option = every_option_read;
  options = option_faults_read;
  keys = key_faults_read;
  long = long_lines_read;
  known = known_samples_read;
  known_faults = known_faults_read;
  revocations = revocations_read;
  long_known = long_known_lines_read;
}
