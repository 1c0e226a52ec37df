use Rattle.ssh_rules.proofs.Imports.{refl}
use Rattle.ssh_wire.specs.Reading.{string_at}
use Rattle.ssh_certs.specs.OptionData.{whole_string_at}
use Rattle.ssh_certs.specs.OptionTable.{critical_named}
use Rattle.ssh_rules.proofs.laws.critical_options_as_read.Goals as goal

pub returns : goal.returns
unfolding string_at whole_string_at critical_named
returns c = record {
  names = (refl, refl, refl, refl, refl, refl, refl, refl, refl, refl);
  forms = (refl, refl, refl, refl, refl, refl, refl, refl, refl, refl, refl, refl, refl);
  repeated = (refl, refl, refl, refl, refl);
}
