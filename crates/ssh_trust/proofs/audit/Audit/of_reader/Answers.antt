use Rattle.ssh_trust.proofs.Imports.{[], err_from_is_err_and}
use Rattle.ssh_trust.proofs.ReadLemmas.{answers-not, answers-spared, answers-stopped, answers-whole, means-whole}
use Rattle.ssh_trust.proofs.audit.Audit.of_reader.Goals as goal

pub returns-in_err-audit-clause-answer : goal.returns-in_err-audit-clause-answer
returns-in_err-audit-clause-answer g c =
    let p = err_from_is_err_and c.from_residual.result c.from_residual.ensures.1 in
    rw (p.1, p.2) (answers-spared (g.R.Source.left c.args.reader.now) _)

pub returns-in_err-feed_from-clause-answer : goal.returns-in_err-feed_from-clause-answer
returns-in_err-feed_from-clause-answer g c =
    let p = err_from_is_err_and c.from_residual-in_err-feed_from.result c.from_residual-in_err-feed_from.ensures.1 in
    let claim = g.T.Matcher.claimed c.args.matcher in
    rw (p.1, p.2)
    (answers-stopped _ _ _ (λ file. g.T.Matcher.decision file claim c.args.vouched.now) _ (c.in_err-feed_from.ensures.fed claim [] c.in_ok-audit.ensures.made))

pub returns-clause-read : goal.returns-clause-read
returns-clause-read g c failed =
    let claim = g.T.Matcher.claimed c.args.matcher in
    let fed = c.in_ok-feed_from.ensures.fed claim [] c.in_ok-audit.ensures.made in
    absurd (answers-not fed.given (g.T.Matcher.decision fed.given claim c.args.vouched.now) (rw failed at (c.finish.ensures.answer claim fed.given fed.stops.0)))

pub returns-clause-means : goal.returns-clause-means
returns-clause-means g c =
    let claim = g.T.Matcher.claimed c.args.matcher in
    means-whole _ _ _ (λ file d. g.T.Matcher.means file claim c.args.vouched.now d) c.finish.result (c.in_ok-feed_from.ensures.fed claim [] c.in_ok-audit.ensures.made)
    (λ file k. c.finish.ensures.means claim file k)

pub returns-clause-answer : goal.returns-clause-answer
returns-clause-answer g c =
    let claim = g.T.Matcher.claimed c.args.matcher in
    answers-whole _ _ _ _ _ (c.in_ok-feed_from.ensures.fed claim [] c.in_ok-audit.ensures.made) (λ file k. c.finish.ensures.answer claim file k)
