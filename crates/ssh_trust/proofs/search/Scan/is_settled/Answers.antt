use Rattle.ssh_trust.proofs.search.Scan.is_settled.Goals as goal

pub returns : goal.returns
returns g c = c.is_some.ensures
