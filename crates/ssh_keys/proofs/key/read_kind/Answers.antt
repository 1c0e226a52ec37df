use Rattle.ssh_keys.proofs.Imports.{arith}
use Rattle.ssh_keys.proofs.KeyLaws.{key_takes}
use Rattle.ssh_keys.proofs.key.read_kind.Goals as goal

pub returns-clause-found : goal.returns-clause-found
returns-clause-found c = λ key read. key_takes c.args.bytes.now key (λ i. omega (arith, c.type_inv.bytes i)) read
