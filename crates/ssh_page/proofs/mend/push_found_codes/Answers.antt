use Rattle.std.proofs.Common.{◌≡◌, ◌++◌, arith, subst, sym}
use Rattle.std.proofs.lemmas.Grind.{common_steps}
use Rattle.ssh_page.specs.Mending.{found_code}
use Rattle.ssh_page.specs.Places.{lines_seen}
use Rattle.ssh_page.proofs.EachLemmas.{each_marks}
use Rattle.ssh_page.proofs.mend.push_found_codes.Goals as goal

pub returns : goal.returns
returns c =
    subst (λ m. c.loop-code.out.items ≡ c.args.out.now.items ++ m) (sym (each_marks (found_code c.args.all (lines_seen c.args.lines.now)) c.args.found.now)) (grind (arith, common_steps))
