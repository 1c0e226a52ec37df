use Rattle.ssh_patterns.proofs.Imports.{◌∙◌}
use Rattle.ssh_patterns.proofs.NetLaw.{net-read, ok-net}
use Rattle.ssh_patterns.proofs.NetFaults.{no-address, bits-past}
use Rattle.ssh_patterns.proofs.net.parse_net.Goals as goal

pub returns-clause-spelled : goal.returns-clause-spelled
returns-clause-spelled c = ok-net c.read_net.result c.args.text.now c.read_net.ensures

pub returns-clause-only : goal.returns-clause-only
returns-clause-only c = λ net h. c.read_net.ensures ∙ net-read net c.args.text.now h

pub returns-clause-address : goal.returns-clause-address
returns-clause-address c = rw c.read_net.ensures (no-address c.args.text.now)

pub returns-clause-host_bits : goal.returns-clause-host_bits
returns-clause-host_bits c = rw c.read_net.ensures (bits-past c.args.text.now)
