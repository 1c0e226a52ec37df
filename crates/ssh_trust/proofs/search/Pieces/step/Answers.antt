use Rattle.ssh_trust.proofs.Imports.{◌≡◌, ◌∙◌, true, false, sym, refl, subst, arith, take_all, StandsFor, has_newline, up_to_newline, HasFound}
use Rattle.ssh_trust.proofs.AuditLemmas.{found-line, found-part, part-of, ready}
use Rattle.ssh_trust.proofs.search.Pieces.step.Goals as goal

pub returns-in-Some-clause-read : goal.returns-in-Some-clause-read
returns-in-Some-clause-read g c claim bytes h =
    let line = c.in-Some.ensures in
    let rest = c.args.rest.now in
    rw (part-of c.in-Some.text.now rest line.part)
    (record {
      scanned = line.stands_for bytes h.scanned;
      found =
          found-line (HasFound g.T.Matcher.claimed g.T.Matcher.nothing g.T.Matcher.add g.T.Matcher.most g.T.Matcher.least claim) _ _ bytes rest (up_to_newline rest) _ _ refl line.newline (line.line bytes h.scanned)
          (λ lines f. c.in_ok-scan_line.ensures.found _ refl claim lines f) h.found;
    })

pub returns-in_ok-scan_line-2-clause-read : goal.returns-in_ok-scan_line-2-clause-read
returns-in_ok-scan_line-2-clause-read g c claim bytes h =
    let fed = c.in_ok-taken.ensures in
    let rest = c.args.rest.now in
    let same = c.whole_line.ensures.none c.in_default.is in
    let stands = fed.stands_for bytes (subst (λ s. StandsFor s bytes) (sym same) h.scanned) in
    let newline : has_newline rest ≡ true = sym fed.newline ∙ c.if-ready.true in
    let line = ready _ _ _ (c.line-number.ensures _ stands) in
    record {
      scanned = stands;
      found =
          found-line (HasFound g.T.Matcher.claimed g.T.Matcher.nothing g.T.Matcher.add g.T.Matcher.most g.T.Matcher.least claim) _ _ bytes rest _ _ line.text fed.part newline line.last
          (λ lines f. c.in_ok-scan_line-2.ensures.found line.text line.is claim lines f) h.found;
    }

pub returns-else-ready-clause-read : goal.returns-else-ready-clause-read
returns-else-ready-clause-read g c claim bytes h =
    let fed = c.in_ok-taken.ensures in
    let rest = c.args.rest.now in
    let none : has_newline rest ≡ false = sym fed.newline ∙ c.if-ready.false in
    let all = fed.all c.if-ready.false in
    let same = c.whole_line.ensures.none c.in_default.is in
    record {
      scanned = fed.stands_for bytes (subst (λ s. StandsFor s bytes) (sym same) h.scanned);
      found = found-part (HasFound g.T.Matcher.claimed g.T.Matcher.nothing g.T.Matcher.add g.T.Matcher.most g.T.Matcher.least claim) _ bytes rest _ (take_all c.in_ok-taken.taken rest (omega arith)) none h.found;
    }
