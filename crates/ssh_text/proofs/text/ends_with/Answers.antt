use Rattle.ssh_text.proofs.Imports.{arith, sym}
use Rattle.ssh_text.proofs.EndLemmas.{ends_with-last}
use Rattle.ssh_text.proofs.text.ends_with.Goals as goal

pub returns : goal.returns
returns c = sym (ends_with-last c.args.byte c.args.text.now (omega arith))
