use Rattle.ssh_findings.proofs.Imports.{refl, codes, Yes, No, Bad}
use Rattle.std.specs.Prelude.{None}
use Rattle.ssh_patterns.specs.AddressReading.{address_of, octets_of, group_of, last_groups_of, groups_of, filled, eight_groups_of}
use Rattle.ssh_findings.proofs.ListLemmas.{said_is}
use Rattle.ssh_findings.proofs.sources.is_bad_list.Goals as goal

pub source_list-requires : goal.source_list-requires
unfolding address_of octets_of group_of last_groups_of groups_of filled eight_groups_of
source_list-requires c = refl

pub returns-in-Bad : goal.returns-in-Bad
returns-in-Bad c = said_is Bad c.args.list.now None (codes "0.0.0.0") c.in-Bad.ensures.value

pub returns-in-Yes : goal.returns-in-Yes
returns-in-Yes c = said_is Yes c.args.list.now None (codes "0.0.0.0") c.in-Yes.ensures.value

pub returns-in-No : goal.returns-in-No
returns-in-No c = said_is No c.args.list.now None (codes "0.0.0.0") c.in-No.ensures.value
