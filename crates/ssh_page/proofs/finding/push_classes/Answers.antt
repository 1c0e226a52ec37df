use Rattle.std.proofs.Common.{◌≡◌, ◌++◌, arith, subst, sym}
use Rattle.std.proofs.lemmas.Grind.{common_steps}
use Rattle.ssh_page.specs.Classes.{class_of}
use Rattle.ssh_page.proofs.EachLemmas.{each_marks}
use Rattle.ssh_page.proofs.finding.push_classes.Goals as goal

pub returns : goal.returns
returns g c =
    subst (λ m. c.loop-finding.out.items ≡ c.args.out.now.items ++ m) (sym (each_marks (λ f. class_of (g.F.Printed.printed f).code) c.args.found.now)) (grind (arith, common_steps))
