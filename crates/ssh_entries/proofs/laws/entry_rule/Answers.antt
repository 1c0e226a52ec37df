use Rattle.ssh_entries.proofs.AuthLemmas.{only_entry, auth_line-spelled}
use Rattle.ssh_entries.proofs.ReadAuth.{auth_line-spells}
use Rattle.ssh_entries.proofs.laws.entry_rule.Goals as goal

pub returns : goal.returns
returns c = record { one = only_entry; read = auth_line-spelled; spelled = auth_line-spells }
