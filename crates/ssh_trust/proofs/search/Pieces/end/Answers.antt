use Rattle.ssh_trust.proofs.Imports.{true, false, sym, ◌≡◌, ◌∙◌, HasFound}
use Rattle.ssh_trust.proofs.AuditLemmas.{found-last, found-none, ready}
use Rattle.ssh_trust.proofs.search.Pieces.end.Goals as goal

pub returns-in_ok-scan_line : goal.returns-in_ok-scan_line
returns-in_ok-scan_line g c claim bytes h =
    let stands = c.finish.ensures.stands_for bytes h.scanned in
    let line = ready _ _ _ (c.line-number.ensures bytes stands) in
    found-last (HasFound g.T.Matcher.claimed g.T.Matcher.nothing g.T.Matcher.add g.T.Matcher.most g.T.Matcher.least claim) _ _ bytes _ line.text ((c.finish.ensures.last bytes h.scanned).0 c.if-finish.true) line.last
    (λ lines f. c.in_ok-scan_line.ensures.found line.text line.is claim lines f) h.found

pub returns-else-finish : goal.returns-else-finish
returns-else-finish g c claim bytes h =
    found-none (HasFound g.T.Matcher.claimed g.T.Matcher.nothing g.T.Matcher.add g.T.Matcher.most g.T.Matcher.least claim) _ bytes
    (λ some. let t = (c.finish.ensures.last bytes h.scanned).1 some in let f : true ≡ false = sym t ∙ c.if-finish.false in cc) h.found
