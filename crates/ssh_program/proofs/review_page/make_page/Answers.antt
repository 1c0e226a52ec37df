use Rattle.ssh_program.proofs.Imports.{map, asking_of, rules}
use Rattle.ssh_program.specs.Namings.{names_seen}
use Rattle.ssh_program.specs.PageReviews.{parts_seen}
use Rattle.ssh_program.proofs.PageLemmas.{page-made}
use Rattle.ssh_program.proofs.review_page.make_page.Goals as goal

pub returns : goal.returns
returns g c =
    page-made c.args.failing.now c.args.title.now c.args.rule.now c.args.kind (asking_of c.args.asked.now) (names_seen c.args.names) c.deref.result.now
    (g.F.Files.source_state c.args.files.now) (g.F.Files.source_state c.tell_files.new.files) (parts_seen c.in_ok-parts.parts) c.in_ok-made.made
    (search rules) c.in_ok-parts.ensures c.in_ok-made.ensures
