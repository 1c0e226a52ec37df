use Rattle.ssh_rights.proofs.RightsLaw.{touch-is, verification-is}
use Rattle.ssh_rights.proofs.laws.security_key_rule.Goals as goal

pub returns : goal.returns
returns c = record { touched = touch-is; verified = verification-is }
