use Rattle.ssh_program.proofs.Imports.{List, Option, option_map, subst, ℕ, plain_zone, ReadsZone, zone_text, ReviewsInZone, RespondsToReview, rows_in}
use Rattle.ssh_program.proofs.StreamLemmas.{writes_error, writes_in}
use Rattle.ssh_program.proofs.review.answer_review.Goals as goal

pub returns-in-Ok : goal.returns-in-Ok
returns-in-Ok g c =
    let rows = rows_in c.args.words.now in
    let reported = option_map plain_zone c.zone_of-zone.result in
    let new = g.F.Files.source_state c.review_in_zone.new.files in
    writes_in (λ s. ReviewsInZone rows reported s new) (λ s. RespondsToReview rows s new) (g.F.Files.source_state c.args.files.now)
    (g.W.Sink.account c.args.writer.now) (g.W.Sink.account c.review_in_zone.new.writer) c.in-Ok.status
    (λ s r reviews. (reported, subst (λ (o : Option (List ℕ)). ReadsZone (zone_text o) reported) c.given_rule.ensures c.zone_of-zone.ensures, reviews)) c.in-Ok.ensures.reported

pub returns-in-Err : goal.returns-in-Err
returns-in-Err g c =
    let rows = rows_in c.args.words.now in
    let reported = option_map plain_zone c.zone_of-zone.result in
    let old = g.F.Files.source_state c.args.files.now in
    let new = g.F.Files.source_state c.review_in_zone.new.files in
    writes_in (λ s. ReviewsInZone rows reported s new) (λ s. RespondsToReview rows s new) old
    (g.W.Sink.account c.args.writer.now) (g.W.Sink.account c.put_made.new.writer) c.put_made.result
    (λ s r reviews. (reported, subst (λ (o : Option (List ℕ)). ReadsZone (zone_text o) reported) c.given_rule.ensures c.zone_of-zone.ensures, reviews))
    (writes_error (λ s. ReviewsInZone rows reported s new) old c.in-Err.fault c.respond_fault.result (g.W.Sink.account c.args.writer.now) (g.W.Sink.account c.review_in_zone.new.writer) (g.W.Sink.account c.put_made.new.writer)
    c.put_made.result c.in-Err.ensures.reported c.in-Err.ensures.untouched c.respond_fault.ensures c.put_made.ensures)
