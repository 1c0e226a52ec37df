use Rattle.ssh_program.proofs.Imports.{faults_in_order, hash_faults_in_order, rewrite_kinds, signature_faults_in_order, trust_files_left, vouch_files_reported, vouch_files_written}
use Rattle.ssh_program.proofs.laws.files_as_reported.Goals as goal

pub returns : goal.returns
returns c = record {
  vouched = vouch_files_reported;
  left = trust_files_left;
  written = vouch_files_written;
  audits = faults_in_order;
  signatures = signature_faults_in_order;
  rewritten = rewrite_kinds;
  hashed = hash_faults_in_order;
}
