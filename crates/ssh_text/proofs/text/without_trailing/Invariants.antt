use Rattle.ssh_text.proofs.Imports.{◌≡◌, length, without_trailing}
use Rattle.ssh_text.proofs.text.without_trailing.Given as goal

abbrev pub invariant-loop-kept : goal.invariant-loop-kept
invariant-loop-kept l = without_trailing l.kept ≡ without_trailing l.text

abbrev pub decreases-loop-kept : goal.decreases-loop-kept
decreases-loop-kept l = length l.kept
