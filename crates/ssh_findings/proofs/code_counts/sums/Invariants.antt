use Rattle.ssh_findings.proofs.Imports.{◌≡◌, ◌<◌, ℕ, length, get_or}
use Rattle.ssh_findings.specs.CodeCounts.{sum_within}
use Rattle.ssh_findings.proofs.code_counts.sums.Given as goal

abbrev pub invariant-loop-place : goal.invariant-loop-place
invariant-loop-place l =
    (length l.sums ≡ 22) × ((k : ℕ) → k < l.place → get_or l.sums k 0 ≡ sum_within (get_or l.left k 0) (get_or l.right k 0))
