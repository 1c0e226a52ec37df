use Rattle.ssh_text.proofs.Imports.{arith}
use Rattle.ssh_text.proofs.EndLemmas.{without_last-is, without_last-other}
use Rattle.ssh_text.proofs.text.without_last.Goals as goal

pub returns-then-last-byte : goal.returns-then-last-byte
returns-then-last-byte c = without_last-is c.args.byte c.args.text.now (omega arith) c.if-last-byte.true

pub returns-else-last-byte : goal.returns-else-last-byte
returns-else-last-byte c = without_last-other c.args.byte c.args.text.now c.if-last-byte.false
