use Rattle.ssh_findings.proofs.Imports.{◌≡◌, option_copied, list_any, length_left, pieces, pieces_left, is_pattern}
use Rattle.ssh_findings.proofs.named.some_is_pattern.Given as goal

abbrev pub invariant-loop-rest : goal.invariant-loop-rest
invariant-loop-rest l = list_any is_pattern (pieces_left (option_copied l.rest)) ≡ list_any is_pattern (pieces l.list)

abbrev pub decreases-loop-rest : goal.decreases-loop-rest
decreases-loop-rest l = length_left (option_copied l.rest)
