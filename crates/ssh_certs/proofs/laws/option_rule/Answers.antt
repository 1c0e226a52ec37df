use Rattle.ssh_certs.proofs.OptionLemmas.{critical-found, extension-not-found}
use Rattle.ssh_certs.proofs.laws.option_rule.Goals as goal

pub returns : goal.returns
returns c = record { critical = critical-found; extension = extension-not-found }
