use Rattle.ssh_audit.proofs.ColourLemmas.{line_whole, line_plain}
use Rattle.ssh_audit.proofs.laws.colour_rule.Goals as goal

pub returns : goal.returns
returns c = record { line = line_whole; plain = line_plain }
