use Rattle.ssh_trust.proofs.Imports.{sym, subst, HasAudited, HasFound}
use Rattle.ssh_trust.proofs.AuditLemmas.{taken-more}
use Rattle.ssh_trust.proofs.audit.Audit.feed.Goals as goal

pub returns-clause-taken : goal.returns-clause-taken
returns-clause-taken g c claim bytes h =
    let stands = subst (λ s. HasAudited g.T.Matcher.claimed g.T.Matcher.nothing g.T.Matcher.add g.T.Matcher.most g.T.Matcher.least claim s bytes) (sym c.self.view_is) h in
    let fed = c.in_ok-feed.ensures in
    taken-more (HasFound g.T.Matcher.claimed g.T.Matcher.nothing g.T.Matcher.add g.T.Matcher.most g.T.Matcher.least claim) c.self.inside.pieces c.feed.new.self bytes c.args.piece.now stands
    fed.octets fed.short fed.sound (fed.read claim bytes stands.read)
