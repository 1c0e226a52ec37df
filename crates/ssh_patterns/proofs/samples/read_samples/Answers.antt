use Rattle.ssh_patterns.proofs.Imports.{matching_samples, address_samples, net_samples, list_samples}
use Rattle.ssh_patterns.proofs.samples.read_samples.Goals as goal

pub returns : goal.returns
returns c = record { matching = matching_samples; addresses = address_samples; nets = net_samples; lists = list_samples }
