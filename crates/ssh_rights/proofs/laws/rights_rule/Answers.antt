use Rattle.ssh_rights.proofs.RightsLaw.{are-rights}
use Rattle.ssh_rights.proofs.RightsLemmas.{is_then_on, on_is}
use Rattle.ssh_rights.proofs.laws.rights_rule.Goals as goal

pub returns : goal.returns
returns c = record { on = λ x options. (on_is x options, is_then_on x options); all = are-rights }
