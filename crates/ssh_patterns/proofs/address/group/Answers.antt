use Rattle.ssh_patterns.proofs.Imports.{rules, arith}
use Rattle.ssh_patterns.proofs.DigitLemmas.{group-below}
use Rattle.ssh_patterns.proofs.address.group.Goals as goal

pub returns-in-1-to-4 : goal.returns-in-1-to-4
returns-in-1-to-4 c =
    rw (group-below c.args.text.now (omega arith) (omega arith)) (rw (← c.number.ensures) (search rules))
