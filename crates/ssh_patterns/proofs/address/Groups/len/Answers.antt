use Rattle.ssh_patterns.proofs.Imports.{sym}
use Rattle.ssh_patterns.proofs.GroupLemmas.{length-groups_in}
use Rattle.ssh_patterns.proofs.address.Groups.len.Goals as goal

pub returns-clause-count : goal.returns-clause-count
returns-clause-count c = rw (← c.self.view_is) (sym (length-groups_in c.self.inside.count c.self.inside.number))
