use Rattle.ssh_findings.proofs.host_earlier.EarlierHosts.new.Goals as goal

pub returns-clause-stands : goal.returns-clause-stands
unfolding Rattle.ssh_findings.specs.Least.least_line
returns-clause-stands c = record {
  hosts = c.new.ensures.empty;
  authorities = c.new-2.ensures.empty;
  revoked = c.new-3.ensures.empty;
  spelled = c.new-4.ensures.empty;
  named = c.new-5.ensures.empty;
}
