use Rattle.ssh_patterns.proofs.Imports.{IsBadCidr, is_bad_cidr, FitsAddress, cidr_item}
use Rattle.ssh_patterns.proofs.SourceLaw.{says-bad, says-yes, bad_cidr-tells, cidr-tells}
use Rattle.ssh_patterns.proofs.sources.cidr_list.Goals as goal

pub returns-clause-bad : goal.returns-clause-bad
returns-clause-bad c =
    rw c.list_permit.ensures.value (says-bad is_bad_cidr IsBadCidr (cidr_item c.args.address.now) c.args.list.now bad_cidr-tells)

pub returns-clause-yes : goal.returns-clause-yes
returns-clause-yes c =
    rw c.list_permit.ensures.value
    (says-yes is_bad_cidr IsBadCidr (cidr_item c.args.address.now) (FitsAddress c.args.address.now) c.args.list.now bad_cidr-tells
    (cidr-tells c.args.address.now))
