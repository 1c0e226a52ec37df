use Rattle.ssh_entries.proofs.Imports.{hmac_samples}
use Rattle.ssh_entries.proofs.laws.names_as_hashed.Goals as goal

pub returns : goal.returns
returns c = hmac_samples
