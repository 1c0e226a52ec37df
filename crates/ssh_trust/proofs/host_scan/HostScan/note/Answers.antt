use Rattle.ssh_trust.proofs.Imports.{refl}
use Rattle.ssh_trust.proofs.host_scan.HostScan.note.Goals as goal

pub returns : goal.returns
returns c = rw (c.first_so_far-self.ensures, c.first_so_far-self-2.ensures) refl
