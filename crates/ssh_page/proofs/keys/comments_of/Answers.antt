use Rattle.std.proofs.Common.{◌≡◌, arith, subst, sym}
use Rattle.std.proofs.lemmas.Grind.{common_steps}
use Rattle.std.proofs.lemmas.List.Folds.{flat_map-map}
use Rattle.ssh_page.specs.KeyGroups.{group_seen}
use Rattle.ssh_page.specs.KeyLists.{first_comment}
use Rattle.ssh_page.proofs.keys.comments_of.Goals as goal

pub returns : goal.returns
returns c =
    subst (λ m. c.loop-group.comments.items ≡ m) (sym (flat_map-map first_comment group_seen c.args.groups.now)) (grind (arith, common_steps))
