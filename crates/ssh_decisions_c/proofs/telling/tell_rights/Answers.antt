use Rattle.ssh_decisions_c.proofs.telling.tell_rights.Goals as goal

pub returns : goal.returns
returns c = record { numbers = c.rights_reported.ensures; carried = c.in_ok-carried.ensures; texts = c.in_ok-texts.ensures }
