use Rattle.ssh_patterns.proofs.Imports.{◌∙◌, sym}
use Rattle.ssh_patterns.proofs.NetLaw.{net-from-v4}
use Rattle.ssh_patterns.proofs.net.read_net.Goals as goal

pub returns-in-Some : goal.returns-in-Some
returns-in-Some c =
    c.net_from.ensures ∙ net-from-v4 c.args.text.now c.in-Some.base c.in-Some.length.now (sym c.in-Some.ensures)
