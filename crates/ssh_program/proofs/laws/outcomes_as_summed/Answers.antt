use Rattle.ssh_program.proofs.Imports.{outcomes_summed, statuses_reported}
use Rattle.ssh_program.specs.AnswerSamples.{admits_is_spelled, fingerprints_are_refused, trusts_is_spelled}
use Rattle.ssh_program.proofs.laws.outcomes_as_summed.Goals as goal

pub returns : goal.returns
returns c = record { admits = admits_is_spelled; fingerprints = fingerprints_are_refused; trusts = trusts_is_spelled; summed = outcomes_summed; statuses = statuses_reported }
