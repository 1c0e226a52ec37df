use Rattle.std.proofs.Common.{◌≡◌, ◌++◌, arith, subst, sym}
use Rattle.std.proofs.lemmas.Grind.{common_steps}
use Rattle.ssh_page.specs.Places.{next_link}
use Rattle.ssh_page.proofs.EachLemmas.{each_marks}
use Rattle.ssh_page.proofs.places.push_next_links.Goals as goal

pub returns : goal.returns
returns c =
    subst (λ m. c.loop-place.out.items ≡ c.args.out.now.items ++ m) (sym (each_marks (next_link c.args.names.now) c.args.places.now)) (grind (arith, common_steps))
