use Rattle.ssh_findings.proofs.Imports.{◌∙◌, get_or, rules}
use Rattle.std.proofs.lemmas.List.FromFn.{fill_by_all}
use Rattle.ssh_findings.specs.CodeCounts.{sum_within}
use Rattle.ssh_findings.proofs.PlacedLemmas.{same-places}
use Rattle.ssh_findings.proofs.code_counts.sums.Goals as goal

pub returns : goal.returns
returns c =
    fill_by_all (λ k. sum_within (get_or c.args.left.now k 0) (get_or c.args.right.now k 0)) c.loop-place.sums 22 0 c.loop-place.invariant.0 (search rules)
    ∙ same-places (λ k. sum_within (get_or c.args.left.now k 0) (get_or c.args.right.now k 0))
