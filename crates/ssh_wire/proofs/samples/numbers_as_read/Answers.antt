use Rattle.ssh_wire.proofs.Imports.{refl}
use Rattle.ssh_wire.specs.Spelling.{mpint_bytes}
use Rattle.ssh_wire.specs.Reading.{string_at, mpint_at}
use Rattle.ssh_wire.proofs.samples.numbers_as_read.Goals as goal

pub returns : goal.returns
unfolding string_at mpint_at mpint_bytes
returns c = ((refl, refl), (refl, refl), (refl, refl), refl, refl, refl, refl, refl, refl, refl)
