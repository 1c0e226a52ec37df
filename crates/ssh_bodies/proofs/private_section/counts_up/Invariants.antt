use Rattle.ssh_bodies.proofs.Paddings.{CountUp}
use Rattle.ssh_bodies.proofs.private_section.counts_up.Given as goal

abbrev pub invariant-loop-index : goal.invariant-loop-index
invariant-loop-index l = CountUp l.rest l.index
