use Rattle.ssh_keys.proofs.Imports.{fingerprint_samples}
use Rattle.ssh_keys.proofs.samples.fingerprints_as_reported.Goals as goal

pub returns : goal.returns
returns c = fingerprint_samples
