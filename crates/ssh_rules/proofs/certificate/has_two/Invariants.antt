use Rattle.ssh_rules.proofs.Imports.{◌≡◌, length, options_left, has_two}
use Rattle.ssh_rules.proofs.certificate.has_two.Given as goal

abbrev pub invariant-loop-other : goal.invariant-loop-other
invariant-loop-other l = has_two l.name (options_left l.rest) ≡ has_two l.name (options_left l.fn.options)

abbrev pub decreases-loop-other : goal.decreases-loop-other
decreases-loop-other l = length (options_left l.rest)
