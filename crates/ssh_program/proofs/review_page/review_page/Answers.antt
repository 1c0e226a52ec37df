use Rattle.ssh_program.proofs.Imports.{map, asking_of}
use Rattle.ssh_program.specs.Namings.{names_seen}
use Rattle.ssh_program.specs.PageReviews.{ReviewsPage, made_response}
use Rattle.ssh_program.proofs.PageLemmas.{page-written}
use Rattle.ssh_program.proofs.StreamLemmas.{writes_memory}
use Rattle.ssh_program.proofs.review_page.review_page.Goals as goal

pub returns-in-Ok : goal.returns-in-Ok
returns-in-Ok g c =
    page-written (λ s. ReviewsPage c.args.title.now c.args.kind c.args.failing.now c.args.rule.now (asking_of c.args.asked.now) (names_seen c.args.names) s (g.F.Files.source_state c.make_page.new.files))
    (g.F.Files.source_state c.args.files.now) (made_response c.in-Ok.made) (g.W.Sink.account c.args.writer.now) (g.W.Sink.account c.put_page.new.writer) c.put_page.result c.in-Ok.ensures c.put_page.ensures

pub returns-in-Err : goal.returns-in-Err
returns-in-Err g c =
    writes_memory (λ s. ReviewsPage c.args.title.now c.args.kind c.args.failing.now c.args.rule.now (asking_of c.args.asked.now) (names_seen c.args.names) s (g.F.Files.source_state c.make_page.new.files))
    (g.F.Files.source_state c.args.files.now) (g.W.Sink.account c.args.writer.now) (g.W.Sink.account c.put_no_memory.new.writer) c.put_no_memory.result c.put_no_memory.ensures
