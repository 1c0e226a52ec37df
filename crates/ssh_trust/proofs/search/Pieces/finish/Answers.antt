use Rattle.ssh_trust.proofs.search.Pieces.finish.Goals as goal

pub returns-clause-found : goal.returns-clause-found
returns-clause-found g c = c.in_ok-end.ensures
