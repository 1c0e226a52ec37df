use Rattle.ssh_print.proofs.DenialLemmas.{unread_another}
use Rattle.ssh_print.proofs.laws.unread_rule.Goals as goal

pub returns : goal.returns
returns c = unread_another
