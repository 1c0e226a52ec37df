use Rattle.std.proofs.Common.{◌≡◌, ◌∙◌, ◌++◌, arith, refl, subst, sym}
use Rattle.std.proofs.lemmas.Grind.{common_steps}
use Rattle.std.proofs.lemmas.List.Folds.{flat_map-map}
use Rattle.ssh_page.specs.KeyGroups.{group_seen}
use Rattle.ssh_page.specs.KeyLists.{first_comment, key_part}
use Rattle.ssh_page.proofs.EachLemmas.{each_of_marks}
use Rattle.ssh_page.proofs.keys.push_each_key.Goals as goal

pub returns : goal.returns
returns c =
    subst (λ m. c.loop-group.out.items ≡ c.args.out.now.items ++ m) (sym (each_of_marks (key_part c.args.names.now) group_seen c.args.groups.now)) (grind (arith, common_steps))

pub loop-group-init : goal.loop-group-init
loop-group-init c = (refl, c.requires ∙ flat_map-map first_comment group_seen c.args.groups.now)
