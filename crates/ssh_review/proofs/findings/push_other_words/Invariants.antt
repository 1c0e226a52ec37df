use Rattle.ssh_review.proofs.Imports.{◌≡◌, ◌++◌, drop, flat_map}
use Rattle.ssh_review.specs.Findings.{words_after_semicolon}
use Rattle.ssh_review.proofs.findings.push_other_words.Given as goal

abbrev pub invariant-loop-finding : goal.invariant-loop-finding
invariant-loop-finding g l = l.out.items ++ flat_map (words_after_semicolon g.F.Printed.printed) (drop l.finding-index l.found) ≡ l.initial.out.items ++ flat_map (words_after_semicolon g.F.Printed.printed) l.found
