use Rattle.ssh_review.proofs.Imports.{◌≡◌, ◌++◌, drop, flat_map}
use Rattle.ssh_review.specs.Readable.{left_out_for}
use Rattle.ssh_review.proofs.readable.push_findings.Given as goal

abbrev pub invariant-loop-finding : goal.invariant-loop-finding
invariant-loop-finding l = l.out.items ++ flat_map (left_out_for l.number) (drop l.finding-index l.found) ≡ l.initial.out.items ++ flat_map (left_out_for l.number) l.found
