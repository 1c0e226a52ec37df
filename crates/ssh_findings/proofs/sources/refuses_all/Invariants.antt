use Rattle.ssh_findings.proofs.Imports.{◌≡◌, map, option_copied, list_any, item_of, items_of, length_left, pieces_left, is_refused_item}
use Rattle.ssh_findings.proofs.sources.refuses_all.Given as goal

abbrev pub invariant-loop-rest : goal.invariant-loop-rest
invariant-loop-rest l = list_any is_refused_item (map item_of (pieces_left (option_copied l.rest))) ≡ list_any is_refused_item (items_of l.list)

abbrev pub decreases-loop-rest : goal.decreases-loop-rest
decreases-loop-rest l = length_left (option_copied l.rest)
