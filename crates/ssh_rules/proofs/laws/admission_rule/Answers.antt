use Rattle.ssh_rules.proofs.AdmissionLemmas.{admits_where_none, none_where_admits}
use Rattle.ssh_rules.proofs.laws.admission_rule.Goals as goal

pub returns : goal.returns
returns c = λ e claim. (admits_where_none e claim, none_where_admits e claim)
