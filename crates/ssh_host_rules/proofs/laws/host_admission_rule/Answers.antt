use Rattle.ssh_host_rules.proofs.HostAdmissionLemmas.{host_where_none, none_where_host}
use Rattle.ssh_host_rules.proofs.laws.host_admission_rule.Goals as goal

pub returns : goal.returns
returns c = λ e claim. (host_where_none e claim, none_where_host e claim)
