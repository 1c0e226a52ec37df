use Rattle.ssh_rewriting.proofs.KnownLineLemmas.{known-spelled, known-read, known-length, known-none}
use Rattle.ssh_rewriting.proofs.laws.canonical_known_rule.Goals as goal

pub returns : goal.returns
returns c = record { spelled = known-spelled; read = known-read; no_longer = known-length; one_line = known-none }
