use Rattle.ssh_patterns.proofs.Imports.{sym}
use Rattle.ssh_patterns.proofs.GroupLemmas.{number-groups_in}
use Rattle.ssh_patterns.proofs.address.Groups.number.Goals as goal

pub returns : goal.returns
returns c = rw (← c.self.view_is) (sym (number-groups_in c.self.inside.count c.self.inside.number c.self.invariant.1))
