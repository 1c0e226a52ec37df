use Rattle.ssh_findings.specs.Findings.{code_of}
use Rattle.ssh_findings.specs.HostFindingsFindings.{host_code_of}
use Rattle.ssh_findings.proofs.CodeCountLemmas.{findings-counted, number-counted, number-none, number-plus}
use Rattle.ssh_findings.proofs.laws.code_counts_rule.Goals as goal

pub returns : goal.returns
returns c = record {
  none = number-none;
  counted = number-counted code_of;
  hosts = number-counted host_code_of;
  plus = number-plus;
  all = findings-counted code_of;
}
