use Rattle.std.proofs.Common.{◌≡◌, ◌++◌, arith, subst, sym}
use Rattle.std.proofs.lemmas.Grind.{common_steps}
use Rattle.ssh_page.specs.Findings.{finding_part}
use Rattle.ssh_page.proofs.EachLemmas.{each_marks}
use Rattle.ssh_page.proofs.finding.push_findings.Goals as goal

pub returns : goal.returns
returns g c =
    subst (λ m. c.loop-finding.out.items ≡ c.args.out.now.items ++ m) (sym (each_marks (λ f. finding_part c.args.file (g.F.Printed.printed f)) c.args.found.now)) (grind (arith, common_steps))
