use Rattle.std.proofs.Common.{◌≡◌, ◌++◌, drop}
use Rattle.std.specs.List.{flat_map}
use Rattle.ssh_page.specs.Documents.{marks}
use Rattle.ssh_page.specs.KeyGroups.{group_seen}
use Rattle.ssh_page.specs.KeyLists.{picture_row}
use Rattle.ssh_page.proofs.key_picture.push_picture_rows.Given as goal

abbrev pub invariant-loop-group : goal.invariant-loop-group
invariant-loop-group l =
    l.out.items ++ flat_map (λ g. marks (picture_row l.all (group_seen g))) (drop l.group-index l.groups)
    ≡ l.initial.out.items ++ flat_map (λ g. marks (picture_row l.all (group_seen g))) l.groups
