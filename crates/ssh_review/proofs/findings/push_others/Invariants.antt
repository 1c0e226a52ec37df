use Rattle.ssh_review.proofs.Imports.{◌≡◌, ◌++◌, drop, flat_map, object_after_comma}
use Rattle.ssh_review.proofs.findings.push_others.Given as goal

abbrev pub invariant-loop-finding : goal.invariant-loop-finding
invariant-loop-finding g l = l.out.items ++ flat_map (object_after_comma g.F.Printed.printed) (drop l.finding-index l.found) ≡ l.initial.out.items ++ flat_map (object_after_comma g.F.Printed.printed) l.found
