use Rattle.ssh_findings.proofs.Imports.{◌≡◌, ◌||◌, option_copied, list_any, length_left, pieces_left, begins_with_bang, has_bang, has_empty_name, has_name, has_stars, is_stars, says_name, says_none}
use Rattle.ssh_findings.proofs.sources.Pieces.of.Given as goal

abbrev pub invariant-loop-rest : goal.invariant-loop-rest
invariant-loop-rest l = record {
  name : (l.kinds.has_name || list_any says_name (pieces_left (option_copied l.rest))) ≡ has_name l.list;
  empty : (l.kinds.has_empty || list_any says_none (pieces_left (option_copied l.rest))) ≡ has_empty_name l.list;
  stars : (l.kinds.has_stars || list_any is_stars (pieces_left (option_copied l.rest))) ≡ has_stars l.list;
  bang : (l.kinds.has_bang || list_any begins_with_bang (pieces_left (option_copied l.rest))) ≡ has_bang l.list;
}

abbrev pub decreases-loop-rest : goal.decreases-loop-rest
decreases-loop-rest l = length_left (option_copied l.rest)
