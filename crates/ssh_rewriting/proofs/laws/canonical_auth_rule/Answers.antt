use Rattle.ssh_rewriting.proofs.AuthLineLemmas.{canonical-spelled, canonical-read, canonical-length, canonical-none}
use Rattle.ssh_rewriting.proofs.laws.canonical_auth_rule.Goals as goal

pub returns : goal.returns
returns c = record { spelled = canonical-spelled; read = canonical-read; no_longer = canonical-length; one_line = canonical-none }
