use Rattle.std.proofs.Common.{◌≡◌, ◌++◌, arith, nat_lt, subst, sym}
use Rattle.std.proofs.lemmas.Grind.{common_steps}
use Rattle.ssh_findings.specs.CodeCounts.{number_of}
use Rattle.ssh_page.specs.Classes.{class_of}
use Rattle.ssh_page.proofs.EachLemmas.{each_kept}
use Rattle.ssh_page.proofs.file.push_each_class.Goals as goal

pub returns : goal.returns
returns c =
    subst (λ m. c.loop-code.out.items ≡ c.args.out.now.items ++ m)
    (sym (each_kept class_of (λ d. nat_lt 0 (number_of c.args.reported d)) c.args.listed.now)) (grind (arith, common_steps))
