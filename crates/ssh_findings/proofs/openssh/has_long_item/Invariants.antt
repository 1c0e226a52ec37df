use Rattle.ssh_findings.proofs.Imports.{◌≡◌, option_copied, list_any, length_left, pieces, pieces_left, is_long_item}
use Rattle.ssh_findings.proofs.openssh.has_long_item.Given as goal

abbrev pub invariant-loop-rest : goal.invariant-loop-rest
invariant-loop-rest l = list_any is_long_item (pieces_left (option_copied l.rest)) ≡ list_any is_long_item (pieces l.list)

abbrev pub decreases-loop-rest : goal.decreases-loop-rest
decreases-loop-rest l = length_left (option_copied l.rest)
