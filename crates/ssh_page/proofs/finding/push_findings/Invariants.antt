use Rattle.std.proofs.Common.{◌≡◌, ◌++◌, drop}
use Rattle.std.specs.List.{flat_map}
use Rattle.ssh_page.specs.Documents.{marks}
use Rattle.ssh_page.specs.Findings.{finding_part}
use Rattle.ssh_page.proofs.finding.push_findings.Given as goal

abbrev pub invariant-loop-finding : goal.invariant-loop-finding
invariant-loop-finding g l =
    l.out.items ++ flat_map (λ f. marks (finding_part l.file (g.F.Printed.printed f))) (drop l.finding-index l.found)
    ≡ l.initial.out.items ++ flat_map (λ f. marks (finding_part l.file (g.F.Printed.printed f))) l.found
