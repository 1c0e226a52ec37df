use Rattle.std.proofs.Common.{◌≡◌, ◌+◌, drop, map}
use Rattle.ssh_page.specs.KeyGroups.{alike}
use Rattle.ssh_page.specs.KeyRows.{row_seen}
use Rattle.ssh_page.proofs.key_groups.run_length.Given as goal

abbrev pub invariant-loop-row : goal.invariant-loop-row
invariant-loop-row l =
    (l.count ≡ l.row-index + 1)
    × (alike l.first.key (map row_seen l.rest) ≡ l.row-index + alike l.first.key (map row_seen (drop l.row-index l.rest)))
