use Rattle.ssh_program.specs.FingerprintSamples.{fingerprints_read}
use Rattle.ssh_program.proofs.FingerprintLemmas.{fingerprint_again, fingerprint_spelled}
use Rattle.ssh_program.proofs.laws.fingerprints_as_read.Goals as goal

pub returns : goal.returns
returns c = record { read = fingerprints_read; spelled = fingerprint_spelled; again = fingerprint_again }
