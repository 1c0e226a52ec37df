use Rattle.std.proofs.Common.{◌∙◌, ◌++◌, ap}
use Rattle.std.specs.Fmt.{decimal}
use Rattle.std.specs.Prelude.{codes, pos}
use Rattle.ssh_print.specs.AnswerText.{sentence}
use Rattle.ssh_print.specs.Dates.{moment_text}
use Rattle.ssh_page.specs.declared.piece.Piece.TheVariants as piece
use Rattle.ssh_page.specs.Documents.{marks, put, ◌&◌}
use Rattle.ssh_page.specs.Headers.{asked, kind_words, looked_for_part, term}
use Rattle.ssh_page.specs.Questions.{looked_for, question_seen}
use Rattle.ssh_page.proofs.Appended.{both}
use Rattle.ssh_page.proofs.header.push_asked.Goals as goal

pub returns : goal.returns
unfolding asked
returns c =
    let q = question_seen c.args.question.now in
    let files = c.in_ok-push_term.ensures ∙ ap (λ said. c.push_piece.new.out.items ++ marks (term (codes "Files") said)) c.kind_words.ensures in
    let program = c.in_ok-push_term-3.ensures ∙ ap (λ said. c.push_looked_for.new.out.items ++ marks (term (codes "Written by") said)) (c.as_bytes.ensures.value ∙ c.sentence.ensures) in
    let to2 = both c.args.out.now.items (marks (put piece.Asked)) (marks (term (codes "Files") (kind_words q.kind))) c.push_piece.new.out.items c.push_term.new.out.items c.in_ok-push_piece.ensures files in
    let to3 = both c.args.out.now.items (marks (put piece.Asked & term (codes "Files") (kind_words q.kind))) (marks (term (codes "Time of the review") (moment_text (pos q.now)))) c.push_term.new.out.items c.push_time.new.out.items to2 c.in_ok-push_time.ensures in
    let to4 = both c.args.out.now.items (marks (put piece.Asked & term (codes "Files") (kind_words q.kind) & term (codes "Time of the review") (moment_text (pos q.now)))) (marks (term (codes "Zone of expiry times without one") q.zone)) c.push_time.new.out.items c.push_term-2.new.out.items to3 c.in_ok-push_term-2.ensures in
    let to5 = both c.args.out.now.items (marks (put piece.Asked & term (codes "Files") (kind_words q.kind) & term (codes "Time of the review") (moment_text (pos q.now)) & term (codes "Zone of expiry times without one") q.zone)) (marks (term (codes "RSA keys need") (decimal q.rsa_minimum ++ codes " bits"))) c.push_term-2.new.out.items c.push_minimum.new.out.items to4 c.in_ok-push_minimum.ensures in
    let to6 = both c.args.out.now.items (marks (put piece.Asked & term (codes "Files") (kind_words q.kind) & term (codes "Time of the review") (moment_text (pos q.now)) & term (codes "Zone of expiry times without one") q.zone & term (codes "RSA keys need") (decimal q.rsa_minimum ++ codes " bits"))) (marks (looked_for_part (looked_for q))) c.push_minimum.new.out.items c.push_looked_for.new.out.items to5 c.in_ok-push_looked_for.ensures in
    let to7 = both c.args.out.now.items (marks (put piece.Asked & term (codes "Files") (kind_words q.kind) & term (codes "Time of the review") (moment_text (pos q.now)) & term (codes "Zone of expiry times without one") q.zone & term (codes "RSA keys need") (decimal q.rsa_minimum ++ codes " bits") & looked_for_part (looked_for q))) (marks (term (codes "Written by") (sentence (codes "version")))) c.push_looked_for.new.out.items c.push_term-3.new.out.items to6 program in
    let to8 = both c.args.out.now.items (marks (put piece.Asked & term (codes "Files") (kind_words q.kind) & term (codes "Time of the review") (moment_text (pos q.now)) & term (codes "Zone of expiry times without one") q.zone & term (codes "RSA keys need") (decimal q.rsa_minimum ++ codes " bits") & looked_for_part (looked_for q) & term (codes "Written by") (sentence (codes "version")))) (marks (put piece.HeaderEnd)) c.push_term-3.new.out.items c.push_piece-2.new.out.items to7 c.in_ok-push_piece-2.ensures in
    to8
