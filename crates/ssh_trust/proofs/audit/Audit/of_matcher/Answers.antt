use Rattle.ssh_trust.proofs.Imports.{HasFound}
use Rattle.ssh_trust.proofs.AuditLemmas.{stands-new}
use Rattle.ssh_trust.proofs.audit.Audit.of_matcher.Goals as goal

pub returns-clause-made : goal.returns-clause-made
returns-clause-made g c =
    let claim = g.T.Matcher.claimed c.args.matcher in
    stands-new (HasFound g.T.Matcher.claimed g.T.Matcher.nothing g.T.Matcher.add g.T.Matcher.most g.T.Matcher.least claim) c.new-2.result
    (c.new-2.ensures.read claim c.in_ok-search.ensures.made) c.new-2.ensures.sound
