use Rattle.ssh_trust.proofs.Imports.{sym, subst, HasAudited}
use Rattle.ssh_trust.proofs.audit.Audit.feed_from.Goals as goal

pub returns-clause-fed : goal.returns-clause-fed
returns-clause-fed g c claim bytes h =
    c.feed_from.ensures.fed claim bytes
    (subst (λ s. HasAudited g.T.Matcher.claimed g.T.Matcher.nothing g.T.Matcher.add g.T.Matcher.most g.T.Matcher.least claim s bytes) (sym c.self.view_is) h)
