use Rattle.ssh_rules.proofs.Imports.{refl}
use Rattle.ssh_wire.specs.Reading.{string_at}
use Rattle.ssh_patterns.specs.AddressReading.{octets_of, group_of, last_groups_of, groups_of, filled, eight_groups_of, address_of}
use Rattle.ssh_patterns.specs.Lists.{permit_by}
use Rattle.ssh_patterns.specs.Nets.{net_of}
use Rattle.ssh_certs.specs.OptionData.{whole_string_at}
use Rattle.ssh_certs.specs.OptionTable.{critical_named}
use Rattle.ssh_rules.proofs.laws.certificates_as_judged.Goals as goal

pub returns : goal.returns
unfolding string_at whole_string_at critical_named octets_of group_of last_groups_of groups_of filled eight_groups_of address_of net_of permit_by
returns c = record {
  users = (refl, refl, refl, refl, refl, refl, refl, refl, refl, refl, refl, refl, refl, refl, refl, refl, refl);
  named = (refl, refl, refl, refl, refl, refl);
  critical = (refl, refl, refl, refl, refl, refl, refl, refl, refl, refl, refl, refl, refl, refl);
  sizes = (refl, refl, refl, refl, refl, refl, refl, refl, refl, refl, refl, refl);
}
