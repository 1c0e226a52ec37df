use Rattle.std.proofs.Common.{◌≡◌, ◌++◌, drop}
use Rattle.std.specs.List.{flat_map}
use Rattle.ssh_page.specs.Documents.{marks}
use Rattle.ssh_page.specs.Classes.{class_of}
use Rattle.ssh_page.proofs.finding.push_classes.Given as goal

abbrev pub invariant-loop-finding : goal.invariant-loop-finding
invariant-loop-finding g l =
    l.out.items ++ flat_map (λ f. marks (class_of (g.F.Printed.printed f).code)) (drop l.finding-index l.found)
    ≡ l.initial.out.items ++ flat_map (λ f. marks (class_of (g.F.Printed.printed f).code)) l.found
