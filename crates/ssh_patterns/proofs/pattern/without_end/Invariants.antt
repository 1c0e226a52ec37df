use Rattle.ssh_patterns.proofs.Imports.{◌≡◌, ◌+◌, ◌≤◌, length, map, is_match, folded}
use Rattle.ssh_patterns.proofs.pattern.without_end.Given as goal

abbrev pub invariant-loop-wanted : goal.invariant-loop-wanted
invariant-loop-wanted l =
    (is_match (map (folded l.case) l.pattern) (map (folded l.case) l.text) ≡ is_match (map (folded l.case) l.wanted) (map (folded l.case) l.left))
    × (length l.wanted + length l.text ≡ length l.left + length l.pattern)
    × (length l.left ≤ length l.text)

abbrev pub decreases-loop-wanted : goal.decreases-loop-wanted
decreases-loop-wanted l = length l.left
