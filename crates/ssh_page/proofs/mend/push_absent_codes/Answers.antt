use Rattle.std.proofs.Common.{◌≡◌, ◌++◌, arith, subst, sym}
use Rattle.std.proofs.lemmas.Grind.{common_steps}
use Rattle.ssh_page.specs.Mending.{absent_code}
use Rattle.ssh_page.proofs.EachLemmas.{each_marks}
use Rattle.ssh_page.proofs.mend.push_absent_codes.Goals as goal

pub returns : goal.returns
returns c =
    subst (λ m. c.loop-code.out.items ≡ c.args.out.now.items ++ m) (sym (each_marks absent_code c.args.codes.now)) (grind (arith, common_steps))
