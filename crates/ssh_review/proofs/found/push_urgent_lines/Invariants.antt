use Rattle.ssh_review.proofs.Imports.{◌≡◌, ◌++◌, drop, flat_map}
use Rattle.ssh_review.specs.Found.{urgent_line}
use Rattle.ssh_review.proofs.found.push_urgent_lines.Given as goal

abbrev pub invariant-loop-code : goal.invariant-loop-code
invariant-loop-code l =
    l.out.items ++ flat_map (urgent_line l.counts l.urgency) (drop l.code-index l.listed)
    ≡ l.initial.out.items ++ flat_map (urgent_line l.counts l.urgency) l.listed
