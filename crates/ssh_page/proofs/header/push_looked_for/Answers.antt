use Rattle.std.proofs.Common.{◌∙◌, ◌++◌, ap}
use Rattle.std.specs.Prelude.{codes}
use Rattle.ssh_page.specs.declared.piece.Piece.TheVariants as piece
use Rattle.ssh_page.specs.Documents.{marks, put, say, ◌&◌}
use Rattle.ssh_page.specs.Headers.{code_list, looked_for_part}
use Rattle.ssh_page.specs.Questions.{looked_for, question_seen}
use Rattle.ssh_page.proofs.Appended.{both}
use Rattle.ssh_page.proofs.header.push_looked_for.Goals as goal

pub returns : goal.returns
unfolding looked_for_part
returns c =
    let looked = looked_for (question_seen c.args.question.now) in
    let listed = c.in_ok-push_code_list.ensures ∙ ap (λ cs. c.push_piece-2.new.out.items ++ marks (code_list cs)) (c.deref.ensures.value ∙ c.in_ok-looked.ensures) in
    let to2 = both c.args.out.now.items (marks (put piece.Term)) (marks (say (codes "Looked for"))) c.push_piece.new.out.items c.push_shown.new.out.items c.in_ok-push_piece.ensures c.in_ok-push_shown.ensures.ok in
    let to3 = both c.args.out.now.items (marks (put piece.Term & say (codes "Looked for"))) (marks (put piece.TermSays)) c.push_shown.new.out.items c.push_piece-2.new.out.items to2 c.in_ok-push_piece-2.ensures in
    let to4 = both c.args.out.now.items (marks (put piece.Term & say (codes "Looked for") & put piece.TermSays)) (marks (code_list looked)) c.push_piece-2.new.out.items c.push_code_list.new.out.items to3 listed in
    let to5 = both c.args.out.now.items (marks (put piece.Term & say (codes "Looked for") & put piece.TermSays & code_list looked)) (marks (put piece.TermEnd)) c.push_code_list.new.out.items c.push_piece-3.new.out.items to4 c.in_ok-push_piece-3.ensures in
    to5
