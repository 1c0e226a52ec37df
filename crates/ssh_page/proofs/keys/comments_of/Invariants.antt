use Rattle.std.proofs.Common.{◌≡◌, ◌++◌, drop}
use Rattle.std.specs.List.{flat_map}
use Rattle.ssh_page.specs.KeyGroups.{group_seen}
use Rattle.ssh_page.specs.KeyLists.{first_comment}
use Rattle.ssh_page.proofs.keys.comments_of.Given as goal

abbrev pub invariant-loop-group : goal.invariant-loop-group
invariant-loop-group l =
    l.comments.items ++ flat_map (λ g. first_comment (group_seen g)) (drop l.group-index l.groups)
    ≡ flat_map (λ g. first_comment (group_seen g)) l.groups
