use Rattle.ssh_review.proofs.Imports.{◌≡◌, ◌++◌, drop, flat_map, row_line}
use Rattle.ssh_review.proofs.findings.push_findings.Given as goal

abbrev pub invariant-loop-finding : goal.invariant-loop-finding
invariant-loop-finding g l = l.out.items ++ flat_map (λ f. row_line (g.F.Printed.printed f)) (drop l.finding-index l.found) ≡ l.initial.out.items ++ flat_map (λ f. row_line (g.F.Printed.printed f)) l.found
