use Rattle.ssh_patterns.proofs.Imports.{◌≡◌, ◌+◌, ◌*◌, ◌≤◌, IsTrue, length, option_copied, pieces_left, length_left}
use Rattle.ssh_patterns.specs.Lists.{permit_by}
use Rattle.ssh_patterns.proofs.ListLemmas.{verdict_after}
use Rattle.ssh_patterns.proofs.list.list_permit.Given as goal

abbrev pub invariant-loop-rest : goal.invariant-loop-rest
invariant-loop-rest g l =
    (verdict_after (g.A.ItemMatcher.is_bad l.asked) (g.A.ItemMatcher.is_match l.asked) l.refused l.matched (pieces_left (option_copied l.rest))
    ≡ permit_by (g.A.ItemMatcher.is_bad l.asked) (g.A.ItemMatcher.is_match l.asked) l.list)
    × (l.steps + length_left (option_copied l.rest) * g.A.ItemMatcher.most_steps l.asked ≤ (length l.list + 1) * g.A.ItemMatcher.most_steps l.asked)
    × (IsTrue l.matched → g.A.ItemMatcher.least_steps l.asked ≤ l.steps)

abbrev pub decreases-loop-rest : goal.decreases-loop-rest
decreases-loop-rest g l = length_left (option_copied l.rest)
