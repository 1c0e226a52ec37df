use Rattle.ssh_print.proofs.ReadingLemmas.{string-read}
use Rattle.ssh_print.proofs.laws.string_rule.Goals as goal

pub returns : goal.returns
returns c = string-read
