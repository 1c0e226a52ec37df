use Rattle.ssh_text.proofs.LineLemmas.{lines_of-are, lines_of-only}
use Rattle.ssh_text.proofs.laws.lines_rule.Goals as goal

pub returns : goal.returns
returns c = record { are = lines_of-are; only = lines_of-only }
