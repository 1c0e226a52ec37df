use Rattle.std.proofs.Common.{◌≡◌, ◌≤◌, ◌++◌, ◌-◌, drop, length, map}
use Rattle.ssh_page.specs.KeyGroups.{group_of, group_seen, runs}
use Rattle.ssh_page.specs.KeyRows.{row_seen}
use Rattle.ssh_page.proofs.key_groups.push_runs.Given as goal

abbrev pub invariant-loop-start : goal.invariant-loop-start
invariant-loop-start l =
    (l.start ≤ length l.rows)
    × (map group_seen l.groups.items ++ map group_of (runs (map row_seen (drop l.start l.rows)))
    ≡ map group_seen l.initial.groups.items ++ map group_of (runs (map row_seen l.rows)))

abbrev pub decreases-loop-start : goal.decreases-loop-start
decreases-loop-start l = length l.rows - l.start
