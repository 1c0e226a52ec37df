use Rattle.ssh_review.proofs.Imports.{[], ap, lines_of, numbered, refl, sym}
use Rattle.ssh_review.specs.HostKeyRecords.{host_key_counts_of, host_key_records_of}
use Rattle.ssh_review.specs.Making.{KnownKeyTells}
use Rattle.ssh_review.specs.LineReports.{host_key_line_reports_of}
use Rattle.ssh_review.specs.declared.show.Show.TheVariants.{All}
use Rattle.ssh_review.proofs.HostStepLemmas.{known-key-fits}
use Rattle.ssh_review.proofs.MakingLemmas.{first-left}
use Rattle.ssh_review.proofs.ShownRecordLemmas.{host-key-all-shown, host-key-report-counts}
use Rattle.ssh_review.proofs.host_key_review.known_key_records.Goals as goal

pub returns : goal.returns
returns c =
    λ form asking name.
    let file = c.args.file.now in
    let wanted = c.args.wanted.now in
    let lines = numbered 1 (lines_of file) in
    first-left KnownKeyTells All form asking name file (host_key_records_of wanted form asking name [] lines) (host_key_counts_of wanted asking [] lines) _ lines (host_key_line_reports_of wanted form asking name [] lines) c.new.result
    c.new.ensures.earlier (ap (λ s. numbered s.0 (lines_of s.1)) c.new.ensures.lines) c.new.ensures.reported (known-key-fits wanted asking file c.requires)
    (record { before = []; stored = c.new-earlier.ensures.stands; are_reports = refl })
    (sym (host-key-all-shown wanted form asking name [] lines)) (host-key-report-counts wanted form asking name [] lines)
