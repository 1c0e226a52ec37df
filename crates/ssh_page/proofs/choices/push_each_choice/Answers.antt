use Rattle.std.proofs.Common.{◌≡◌, ◌++◌, arith, subst, sym}
use Rattle.std.proofs.lemmas.Grind.{common_steps}
use Rattle.ssh_page.specs.Choices.{choice}
use Rattle.ssh_page.proofs.EachLemmas.{each_marks}
use Rattle.ssh_page.proofs.choices.push_each_choice.Goals as goal

pub returns : goal.returns
returns c =
    subst (λ m. c.loop-code.out.items ≡ c.args.out.now.items ++ m) (sym (each_marks choice c.args.found.now)) (grind (arith, common_steps))
