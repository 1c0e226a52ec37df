use Rattle.ssh_keys.proofs.Imports.{rules, key_of}
use Rattle.ssh_keys.proofs.RsaSizes.{size-tells}
use Rattle.ssh_keys.proofs.compare.rsa_at_least.Goals as goal

pub returns-in-Some-clause-exact : goal.returns-in-Some-clause-exact
returns-in-Some-clause-exact c = size-tells (key_of c.args.key.now) c.args.bits c.in-Some.size (search rules)
