use Rattle.ssh_review.proofs.Imports.{[], ap, lines_of, numbered, refl, sym}
use Rattle.ssh_review.specs.KeyRecords.{key_counts_of, key_records_of}
use Rattle.ssh_review.specs.Making.{AuthKeyTells}
use Rattle.ssh_review.specs.LineReports.{key_line_reports_of}
use Rattle.ssh_review.specs.declared.show.Show.TheVariants.{All}
use Rattle.ssh_review.proofs.MakingLemmas.{first-left}
use Rattle.ssh_review.proofs.ShownRecordLemmas.{key-all-shown, key-report-counts}
use Rattle.ssh_review.proofs.StepLemmas.{auth-key-fits}
use Rattle.ssh_review.proofs.key_review.auth_key_records.Goals as goal

pub returns : goal.returns
returns c =
    λ form asking name.
    let file = c.args.file.now in
    let wanted = c.args.wanted.now in
    let lines = numbered 1 (lines_of file) in
    first-left AuthKeyTells All form asking name file (key_records_of wanted form asking name [] lines) (key_counts_of wanted asking [] lines) _ lines (key_line_reports_of wanted form asking name [] lines) c.new.result
    c.new.ensures.earlier (ap (λ s. numbered s.0 (lines_of s.1)) c.new.ensures.lines) c.new.ensures.reported (auth-key-fits wanted asking file c.requires)
    (record { held = []; stored = c.new-earlier.ensures.stands; are_reports = refl })
    (sym (key-all-shown wanted form asking name [] lines)) (key-report-counts wanted form asking name [] lines)
