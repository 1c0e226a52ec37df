use Rattle.std.proofs.Common.{◌≡◌, ◌++◌, arith, subst, sym}
use Rattle.std.proofs.lemmas.Grind.{common_steps}
use Rattle.ssh_page.specs.Headers.{code_word}
use Rattle.ssh_page.proofs.EachLemmas.{each_marks}
use Rattle.ssh_page.proofs.header.push_code_words.Goals as goal

pub returns : goal.returns
returns c =
    subst (λ m. c.loop-code.out.items ≡ c.args.out.now.items ++ m) (sym (each_marks code_word c.args.listed.now)) (grind (arith, common_steps))
