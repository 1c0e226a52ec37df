use Rattle.ssh_certs.proofs.Imports.{refl}
use Rattle.ssh_wire.specs.Reading.{string_at}
use Rattle.ssh_certs.specs.OptionData.{whole_string_at}
use Rattle.ssh_certs.proofs.laws.option_data_as_read.Goals as goal

pub returns : goal.returns
unfolding string_at whole_string_at
returns c = (refl, refl, refl, refl, refl, refl, refl, refl, refl, refl)
