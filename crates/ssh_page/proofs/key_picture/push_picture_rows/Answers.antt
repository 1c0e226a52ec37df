use Rattle.std.proofs.Common.{◌≡◌, ◌++◌, arith, subst, sym}
use Rattle.std.proofs.lemmas.Grind.{common_steps}
use Rattle.ssh_page.specs.KeyGroups.{group_seen}
use Rattle.ssh_page.specs.KeyLists.{picture_row}
use Rattle.ssh_page.proofs.EachLemmas.{each_of_marks}
use Rattle.ssh_page.proofs.key_picture.push_picture_rows.Goals as goal

pub returns : goal.returns
returns c =
    subst (λ m. c.loop-group.out.items ≡ c.args.out.now.items ++ m) (sym (each_of_marks (picture_row c.args.all) group_seen c.args.groups.now)) (grind (arith, common_steps))
