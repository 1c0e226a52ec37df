use Rattle.ssh_options.proofs.Imports.{plain_zone}
use Rattle.ssh_options.proofs.MomentLemmas.{read-none, read-shown, difference}
use Rattle.ssh_options.proofs.expiry_time.moment_of.Goals as goal

pub returns : goal.returns
returns c =
    read-shown c.args.text.now c.without_last.result.now (plain_zone c.args.zone.now) c.in-Some.shown _ c.without_last.ensures c.in-Some.ensures.is c.in-Some.ensures.shown
    (difference c.seconds_at.result c.offset_of.result _ _ c.seconds_at.ensures.value c.offset_of.ensures.value c.seconds_at.ensures.range c.offset_of.ensures.range)

pub returns-in_default : goal.returns-in_default
returns-in_default c =
    read-none c.args.text.now c.without_last.result.now (plain_zone c.args.zone.now) c.without_last.ensures c.in_default.ensures.is
