use Rattle.ssh_wire.proofs.MpintLemmas.{shortest}
use Rattle.ssh_wire.proofs.samples.least_bytes_are_shortest.Goals as goal

pub returns : goal.returns
returns c = shortest
