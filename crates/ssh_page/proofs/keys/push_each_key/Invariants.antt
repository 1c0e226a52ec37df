use Rattle.std.proofs.Common.{◌≡◌, ◌++◌, drop}
use Rattle.std.specs.List.{flat_map}
use Rattle.ssh_page.specs.Documents.{marks}
use Rattle.ssh_page.specs.KeyGroups.{group_seen}
use Rattle.ssh_page.specs.KeyLists.{first_comment, key_part}
use Rattle.ssh_page.proofs.keys.push_each_key.Given as goal

abbrev pub invariant-loop-group : goal.invariant-loop-group
invariant-loop-group l =
    (l.out.items ++ flat_map (λ g. marks (key_part l.names (group_seen g))) (drop l.group-index l.groups)
    ≡ l.initial.out.items ++ flat_map (λ g. marks (key_part l.names (group_seen g))) l.groups)
    × (l.rest ≡ flat_map (λ g. first_comment (group_seen g)) (drop l.group-index l.groups))
