use Rattle.ssh_program.specs.DefaultSamples.{hosts_reported, others_reported, review_zones_read, reviews_reported}
use Rattle.ssh_program.proofs.laws.defaults_as_reported.Goals as goal

pub returns : goal.returns
returns c = record { reviews = reviews_reported; zones = review_zones_read; others = others_reported; hosts = hosts_reported }
