use Rattle.ssh_rights.proofs.Imports.{refl}
use Rattle.ssh_wire.specs.Reading.{string_at}
use Rattle.ssh_certs.specs.OptionData.{whole_string_at}
use Rattle.ssh_rights.proofs.laws.options_as_read.Goals as goal

pub returns : goal.returns
unfolding string_at whole_string_at
returns c = record {
  forced = (refl, refl, refl, refl, refl, refl, refl, refl, refl, refl, refl, refl);
  chosen = (refl, refl, refl, refl);
}
