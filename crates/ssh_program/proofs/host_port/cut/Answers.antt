use Rattle.ssh_program.proofs.HostPortLemmas.{cut_made}
use Rattle.ssh_program.proofs.host_port.cut.Goals as goal

pub returns : goal.returns
returns c = cut_made c.args.mark c.args.text.now c.split_once.result (c.split_once.ensures.byte c.requires (λ text place found. found))
