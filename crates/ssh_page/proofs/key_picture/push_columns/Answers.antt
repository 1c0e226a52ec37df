use Rattle.std.proofs.Common.{◌≡◌, ◌++◌, arith, subst, sym}
use Rattle.std.proofs.lemmas.Grind.{common_steps}
use Rattle.ssh_page.specs.KeyLists.{column}
use Rattle.ssh_page.specs.KeyRows.{row_seen}
use Rattle.ssh_page.proofs.EachLemmas.{each_of_marks}
use Rattle.ssh_page.proofs.key_picture.push_columns.Goals as goal

pub returns : goal.returns
returns c =
    subst (λ m. c.loop-row.out.items ≡ c.args.out.now.items ++ m) (sym (each_of_marks column row_seen c.args.rows.now)) (grind (arith, common_steps))
