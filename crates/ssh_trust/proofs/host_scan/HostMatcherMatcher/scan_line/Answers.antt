use Rattle.ssh_trust.proofs.Imports.{◌∙◌, sym, known_seen}
use Rattle.ssh_trust.proofs.HostScanLemmas.{line-judged, line-noted}
use Rattle.ssh_trust.proofs.TurnLemmas.{judged-least, settled-least, unchanged-least}
use Rattle.ssh_trust.proofs.host_scan.HostMatcherMatcher.scan_line.Goals as goal

pub returns-then-is_settled-clause-value : goal.returns-then-is_settled-clause-value
returns-then-is_settled-clause-value c text is =
    line-noted c.args.self.now c.args.state.now c.note.new.self c.args.number text (known_seen c.view_of-view.result) c.is_revoked_by.result c.may_revoke.result
    (c.view_of-view.ensures text is) c.is_revoked_by.ensures c.may_revoke.ensures c.note.ensures (sym c.is_settled.ensures ∙ c.if-is_settled.true)

pub returns-clause-value : goal.returns-clause-value
returns-clause-value c =
    λ text is.
    line-judged c.args.self.now c.args.state.now c.note.new.self c.take_verdict.new.state c.args.number text (known_seen c.view_of-view.result) c.is_revoked_by.result
    c.may_revoke.result c.in_ok-verdict.verdict (c.view_of-view.ensures text is) c.is_revoked_by.ensures c.may_revoke.ensures c.note.ensures
    (sym c.is_settled.ensures ∙ c.if-is_settled.false) c.in_ok-verdict.ensures.value c.in_ok-take_verdict.ensures.value

pub returns-then-is_settled-clause-least : goal.returns-then-is_settled-clause-least
returns-then-is_settled-clause-least c text is =
    settled-least c.args.self.now c.args.state.now c.note.new.self c.args.number text c.is_revoked_by.result c.may_revoke.result c.note.ensures
    (sym c.is_settled.ensures ∙ c.if-is_settled.true)

pub returns-clause-least : goal.returns-clause-least
returns-clause-least c text is =
    judged-least c.args.self.now c.args.state.now c.args.number text (known_seen c.view_of-view.result) c.in_ok-verdict.verdict c.in_ok-verdict.steps
    (c.view_of-view.ensures text is) c.in_ok-verdict.ensures.value c.in_ok-verdict.ensures.least

pub returns-then-is_passed_over-clause-least : goal.returns-then-is_passed_over-clause-least
returns-then-is_passed_over-clause-least c text is =
    unchanged-least c.args.self.now c.args.state.now c.args.number text (c.is_passed_over.ensures c.args.number text is c.if-is_passed_over.true)
