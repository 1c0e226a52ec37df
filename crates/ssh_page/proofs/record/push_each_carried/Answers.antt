use Rattle.std.proofs.Common.{◌≡◌, ◌++◌, arith, subst, sym}
use Rattle.std.proofs.lemmas.Grind.{common_steps}
use Rattle.ssh_page.specs.Records.{carried_part}
use Rattle.ssh_page.proofs.EachLemmas.{each_marks}
use Rattle.ssh_page.proofs.record.push_each_carried.Goals as goal

pub returns : goal.returns
returns c =
    subst (λ m. c.loop-text.out.items ≡ c.args.out.now.items ++ m) (sym (each_marks carried_part c.args.carried.now)) (grind (arith, common_steps))
