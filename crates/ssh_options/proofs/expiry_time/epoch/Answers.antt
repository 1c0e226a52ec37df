use Rattle.ssh_options.proofs.MomentLemmas.{epoch-nanos}
use Rattle.ssh_options.proofs.expiry_time.epoch.Goals as goal

pub returns : goal.returns
returns c = epoch-nanos c.datetime.result c.datetime.ensures.date c.datetime.ensures.time
