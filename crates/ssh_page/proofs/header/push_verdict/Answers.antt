use Rattle.std.proofs.Common.{◌∙◌, ◌++◌, ap}
use Rattle.std.specs.Prelude.{codes}
use Rattle.ssh_page.specs.declared.piece.Piece.TheVariants as piece
use Rattle.ssh_page.specs.Documents.{marks, put, ◌&◌}
use Rattle.ssh_page.specs.Headers.{found_part, how_many, verdict, verdict_piece}
use Rattle.ssh_page.specs.Questions.{looked_for, question_seen}
use Rattle.ssh_page.proofs.Appended.{both}
use Rattle.ssh_page.proofs.header.push_verdict.Goals as goal

pub returns : goal.returns
unfolding verdict
returns c =
    let t = c.args.totals.now in
    let looked = looked_for (question_seen c.args.question.now) in
    let begun = c.in_ok-push_piece.ensures ∙ ap (λ p. c.args.out.now.items ++ marks (put p)) c.verdict_piece.ensures in
    let found = c.in_ok-push_found.ensures ∙ ap (λ cs. c.push_how_many-2.new.out.items ++ marks (found_part cs t.findings)) (c.deref.ensures.value ∙ c.in_ok-looked.ensures) in
    let to2 = both c.args.out.now.items (marks (put (verdict_piece t))) (marks (how_many t.faults (codes " file could not be read: this review is not whole. ") (codes " files could not be read: this review is not whole. "))) c.push_piece.new.out.items c.push_how_many.new.out.items begun c.in_ok-push_how_many.ensures in
    let to3 = both c.args.out.now.items (marks (put (verdict_piece t) & how_many t.faults (codes " file could not be read: this review is not whole. ") (codes " files could not be read: this review is not whole. "))) (marks (how_many t.today (codes " finding has to be mended today. ") (codes " findings have to be mended today. "))) c.push_how_many.new.out.items c.push_how_many-2.new.out.items to2 c.in_ok-push_how_many-2.ensures in
    let to4 = both c.args.out.now.items (marks (put (verdict_piece t) & how_many t.faults (codes " file could not be read: this review is not whole. ") (codes " files could not be read: this review is not whole. ") & how_many t.today (codes " finding has to be mended today. ") (codes " findings have to be mended today. "))) (marks (found_part looked t.findings)) c.push_how_many-2.new.out.items c.push_found.new.out.items to3 found in
    let to5 = both c.args.out.now.items (marks (put (verdict_piece t) & how_many t.faults (codes " file could not be read: this review is not whole. ") (codes " files could not be read: this review is not whole. ") & how_many t.today (codes " finding has to be mended today. ") (codes " findings have to be mended today. ") & found_part looked t.findings)) (marks (put piece.ParagraphEnd)) c.push_found.new.out.items c.push_piece-2.new.out.items to4 c.in_ok-push_piece-2.ensures in
    to5
