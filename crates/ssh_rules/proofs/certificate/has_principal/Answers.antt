use Rattle.ssh_rules.proofs.Imports.{certificate_of}
use Rattle.ssh_rules.proofs.Principals.{principal-same}
use Rattle.ssh_rules.proofs.certificate.has_principal.Goals as goal

pub returns : goal.returns
returns c = principal-same (certificate_of c.args.certificate.now) c.args.name.now c.has_principal.result c.has_principal.ensures
