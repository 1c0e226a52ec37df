use Rattle.ssh_keys.proofs.Imports.{arith}
use Rattle.ssh_keys.proofs.Bits.{bits_of_bytes}
use Rattle.ssh_keys.proofs.compare.bit_count.Goals as goal

pub returns-in-len1-up : goal.returns-in-len1-up
returns-in-len1-up c = bits_of_bytes c.args.bytes.now c.in-len1-up.len_at_least (λ i. omega (arith, c.type_inv.bytes i)) c.requires.least
