use Rattle.ssh_rewriting.proofs.HashedLineLemmas.{hashed-spelled, hashed-read, hashed-line-length, hashed-none}
use Rattle.ssh_rewriting.proofs.laws.hashed_line_rule.Goals as goal

pub returns : goal.returns
returns c = record { spelled = hashed-spelled; read = hashed-read; length = hashed-line-length; one_line = hashed-none }
