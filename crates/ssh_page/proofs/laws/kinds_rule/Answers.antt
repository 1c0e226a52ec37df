use Rattle.ssh_page.proofs.KindLemmas.{hosts_of_kind, keys_of_kind}
use Rattle.ssh_page.proofs.laws.kinds_rule.Goals as goal

pub returns : goal.returns
returns c = record { keys = keys_of_kind; hosts = hosts_of_kind }
