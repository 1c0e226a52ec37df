use Rattle.ssh_patterns.proofs.Imports.{one-le-pow, arith}
use Rattle.ssh_patterns.proofs.GroupLemmas.{groups_in-zeros}
use Rattle.ssh_patterns.proofs.address.Groups.zeros.Goals as goal

pub invariant_of-result : goal.invariant_of-result
invariant_of-result c = (c.requires, omega (arith, one-le-pow c.args.count 65536 (omega arith)))

pub returns : goal.returns
returns c = groups_in-zeros c.args.count
