use Rattle.ssh_options.proofs.Imports.{ap, ◌∙◌, is_some, Ok, plain_zone}
use Rattle.ssh_options.proofs.MomentLemmas.{moment-some, moment-found, moment-only}
use Rattle.ssh_options.proofs.expiry_time.expiry.Goals as goal

pub returns-clause-some : goal.returns-clause-some
returns-clause-some c = ap is_some c.moment_of-moment.ensures ∙ moment-some c.args.text.now (plain_zone c.args.zone.now)

pub returns-clause-found : goal.returns-clause-found
returns-clause-found c = moment-found c.args.text.now (plain_zone c.args.zone.now) c.moment_of-moment.result c.moment_of-moment.ensures

pub returns-clause-only : goal.returns-clause-only
returns-clause-only c = λ moment is. ap Ok (c.moment_of-moment.ensures ∙ moment-only c.args.text.now (plain_zone c.args.zone.now) moment is)
