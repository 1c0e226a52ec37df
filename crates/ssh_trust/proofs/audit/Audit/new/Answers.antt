use Rattle.ssh_trust.proofs.Imports.{[], subst, HasAudited}
use Rattle.ssh_trust.proofs.AnswerLemmas.{made-refused, of-claim}
use Rattle.ssh_trust.proofs.audit.Audit.new.Goals as goal

pub returns-clause-made : goal.returns-clause-made
returns-clause-made g c =
    of-claim (g.T.Matcher.claim c.args.query.now) _
    (λ claim is.
    subst (λ q. HasAudited g.T.Matcher.claimed g.T.Matcher.nothing g.T.Matcher.add g.T.Matcher.most g.T.Matcher.least q c.in_ok-audit.audit [])
    (rw is at c.in_ok-matcher.ensures.made) c.in_ok-audit.ensures.made)

pub returns-clause-refused : goal.returns-clause-refused
returns-clause-refused g c = made-refused (g.T.Matcher.claim c.args.query.now) c.in_ok-matcher.matcher _ c.in_ok-matcher.ensures.refused
