use Rattle.ssh_trust.proofs.Imports.{refl}
use Rattle.ssh_trust.proofs.search.Scan.has_room.Goals as goal

pub returns : goal.returns
returns g c = rw c.len.ensures refl
