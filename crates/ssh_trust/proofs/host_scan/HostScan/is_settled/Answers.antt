use Rattle.ssh_trust.proofs.host_scan.HostScan.is_settled.Goals as goal

pub returns : goal.returns
returns c = c.is_some.ensures
