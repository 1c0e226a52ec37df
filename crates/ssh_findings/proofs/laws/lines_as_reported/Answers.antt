use Rattle.ssh_findings.proofs.Imports.{applications_read, certified_read, decoys_reported, hosts_reported, spellings_read}
use Rattle.ssh_findings.proofs.laws.lines_as_reported.Goals as goal

pub returns : goal.returns
returns c = record {
  decoys = decoys_reported;
  hosts = hosts_reported;
  spellings = spellings_read;
  applications = applications_read;
  certified = certified_read;
}
