use Rattle.ssh_trust.proofs.Imports.{refl, arith}
use Rattle.ssh_trust.proofs.AuditLemmas.{found-push}
use Rattle.ssh_trust.proofs.search.Search.scan_line.Goals as goal

pub returns-clause-found : goal.returns-clause-found
returns-clause-found g c text is claim lines h =
    let sum = c.with_more-self.ensures in
    found-push g.T.Matcher.claimed g.T.Matcher.nothing g.T.Matcher.add g.T.Matcher.most g.T.Matcher.least claim c.args.self.now _ lines (c.args.number, text)
    c.in_ok-steps.steps h refl (c.in_ok-steps.ensures.value text is) sum.most sum.before sum.taken (c.in_ok-steps.ensures.most text is) (c.in_ok-steps.ensures.least text is)

pub returns-in_err-steps-clause-bounded : goal.returns-in_err-steps-clause-bounded
returns-in_err-steps-clause-bounded g c h =
    let size = c.scan_line.new.buffer.room.size in record { reasons = c.in_err-steps.ensures.few h.reasons; buffer = omega (arith, size) }

pub returns-clause-bounded : goal.returns-clause-bounded
returns-clause-bounded g c h =
    let size = c.scan_line.new.buffer.room.size in record { reasons = c.in_ok-steps.ensures.few h.reasons; buffer = omega (arith, size) }
