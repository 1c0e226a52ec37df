use Rattle.ssh_trust.proofs.Imports.{[], err_from_is_err_and}
use Rattle.ssh_trust.proofs.AnswerLemmas.{fed-gives}
use Rattle.ssh_trust.proofs.audit.Audit.of_file.Goals as goal

pub returns-in_err-feed-clause-answer : goal.returns-in_err-feed-clause-answer
returns-in_err-feed-clause-answer g c =
    let p = err_from_is_err_and c.from_residual-in_err-feed.result c.from_residual-in_err-feed.ensures.1 in
    let claim = g.T.Matcher.claimed c.args.matcher in
    let stands = c.in_ok-audit.ensures.made in
    rw (p.1, p.2)
    (fed-gives c.args.file.now (g.T.Matcher.decision c.args.file.now claim c.args.vouched.now) _ (c.in_err-feed.ensures.too_long claim [] stands)
    (c.in_err-feed.ensures.else_memory claim [] stands))

pub returns-clause-means : goal.returns-clause-means
returns-clause-means g c =
    let claim = g.T.Matcher.claimed c.args.matcher in
    c.finish.ensures.means claim c.args.file.now (c.in_ok-feed.ensures.taken claim [] c.in_ok-audit.ensures.made)

pub returns-clause-answer : goal.returns-clause-answer
returns-clause-answer g c =
    let claim = g.T.Matcher.claimed c.args.matcher in
    c.finish.ensures.answer claim c.args.file.now (c.in_ok-feed.ensures.taken claim [] c.in_ok-audit.ensures.made)
