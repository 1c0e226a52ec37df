use Rattle.ssh_print.proofs.FingerprintLemmas.{first_held, none_admitted}
use Rattle.ssh_print.proofs.laws.fingerprint_rule.Goals as goal

pub returns : goal.returns
returns c = record { found = first_held; none = none_admitted }
