use Rattle.ssh_review.proofs.Imports.{[], arith, ap, counts_of, lines_of, numbered, refl, AreBytes-from}
use Rattle.ssh_review.specs.Making.{AuthTells}
use Rattle.ssh_review.specs.ShownRecords.{shown_records}
use Rattle.ssh_review.specs.LineReports.{line_reports_of, of_all}
use Rattle.ssh_review.proofs.MakingLemmas.{first-left}
use Rattle.ssh_review.proofs.ShownRecordLemmas.{report-counts}
use Rattle.ssh_review.proofs.StepLemmas.{auth-first, auth-fits}
use Rattle.ssh_review.proofs.auth_review.auth_records.Goals as goal

pub returns-clause-left : goal.returns-clause-left
returns-clause-left c =
    λ show form asking name.
    let file = c.args.file.now in
    let lines = numbered 1 (lines_of file) in
    let line_reports = line_reports_of form asking name [] lines in
    first-left AuthTells show form asking name file (shown_records show line_reports) (of_all (counts_of asking [] lines)) c.new.result lines line_reports c.new-2.result
    c.new-2.ensures.earlier (ap (λ s. numbered s.0 (lines_of s.1)) c.new-2.ensures.lines) c.new-2.ensures.reported (auth-fits asking file c.requires)
    (auth-first form asking name file c.new.result (AreBytes-from file (λ i. omega (arith, c.type_inv.file i))) c.new.ensures.stands c.new.ensures.bytes c.new.ensures.keys)
    refl (report-counts form asking name [] lines)
