use Rattle.ssh_patterns.proofs.Imports.{◌∙◌}
use Rattle.ssh_patterns.proofs.CutLemmas.{near-all}
use Rattle.ssh_patterns.proofs.pattern.cut.Goals as goal

pub returns : goal.returns
returns c = c.cut_near.ensures ∙ near-all c.args.mark c.args.text.now
