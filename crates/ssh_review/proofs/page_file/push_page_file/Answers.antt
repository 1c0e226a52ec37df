use Rattle.ssh_review.proofs.Imports.{AsRow, [], asking_of, counts_of, host_counts_of, lines_of, numbered, ◌∙◌}
use Rattle.sha2.specs.Sha256.{sha256}
use Rattle.ssh_page.specs.declared.file.FileKind.TheVariants.{AuthorizedKeys, KnownHosts}
use Rattle.ssh_review.specs.HostRows.{host_rows_of}
use Rattle.ssh_review.specs.ShownRecords.{shown_records}
use Rattle.ssh_review.specs.LineReports.{host_line_reports_of, line_reports_of, of_all}
use Rattle.ssh_review.specs.declared.show.Show.TheVariants.{All}
use Rattle.ssh_review.specs.PageFiles.{seen_so}
use Rattle.ssh_review.specs.Rows.{rows_of}
use Rattle.ssh_review.proofs.DistinctLemmas.{keys-noted}
use Rattle.ssh_review.proofs.PageRowLemmas.{counted-so, host-rows-marks, made-so, rows-marks, section-made}
use Rattle.ssh_review.proofs.ShownRecordLemmas.{all-shown, hosts-all-shown}
use Rattle.ssh_review.proofs.page_file.push_page_file.Goals as goal

pub returns-in-AuthorizedKeys-clause-counts : goal.returns-in-AuthorizedKeys-clause-counts
returns-in-AuthorizedKeys-clause-counts c =
    let file = c.args.file.now in
    let asking = asking_of c.args.asked.now in
    let lines = numbered 1 (lines_of file) in
    let text = shown_records All (line_reports_of (AsRow c.args.number) asking c.args.name.now [] lines) in
    let counts = counts_of asking [] lines in
    let left = c.auth_records-begun.ensures.left All (AsRow c.args.number) asking c.args.name.now in
    rw c.in-AuthorizedKeys.is (counted-so _ c.push_records.result text (of_all counts) left c.push_records.ensures.counts)

pub returns-in-AuthorizedKeys-clause-section : goal.returns-in-AuthorizedKeys-clause-section
returns-in-AuthorizedKeys-clause-section c =
    let file = c.args.file.now in
    let asking = asking_of c.args.asked.now in
    let lines = numbered 1 (lines_of file) in
    let text = shown_records All (line_reports_of (AsRow c.args.number) asking c.args.name.now [] lines) in
    let counts = counts_of asking [] lines in
    let left = c.auth_records-begun.ensures.left All (AsRow c.args.number) asking c.args.name.now in
    rw c.in-AuthorizedKeys.is (made-so c.push_records.result _ _ (λ made.
    section-made AuthorizedKeys c.args.number (seen_so c.args.name.now counts (sha256 file)) counts (rows_of c.args.number asking [] lines) text _ _
    (all-shown (AsRow c.args.number) asking c.args.name.now [] lines ∙ rows-marks c.args.number asking c.args.name.now [] lines) (made text (of_all counts) left)) (rw c.in-AuthorizedKeys.is at c.push_records.ensures.section))

pub returns-in-AuthorizedKeys-clause-row : goal.returns-in-AuthorizedKeys-clause-row
returns-in-AuthorizedKeys-clause-row c =
    let file = c.args.file.now in
    let asking = asking_of c.args.asked.now in
    let lines = numbered 1 (lines_of file) in
    let text = shown_records All (line_reports_of (AsRow c.args.number) asking c.args.name.now [] lines) in
    let counts = counts_of asking [] lines in
    let left = c.auth_records-begun.ensures.left All (AsRow c.args.number) asking c.args.name.now in
    rw c.in-AuthorizedKeys.is (made-so c.push_records.result _ _ (λ made. made text (of_all counts) left) c.push_records.ensures.row)

pub returns-in-KnownHosts-clause-counts : goal.returns-in-KnownHosts-clause-counts
returns-in-KnownHosts-clause-counts c =
    let file = c.args.file.now in
    let asking = asking_of c.args.asked.now in
    let lines = numbered 1 (lines_of file) in
    let text = shown_records All (host_line_reports_of (AsRow c.args.number) asking c.args.name.now [] lines) in
    let counts = host_counts_of asking [] lines in
    let left = c.known_records-begun.ensures.left All (AsRow c.args.number) asking c.args.name.now in
    rw c.in-KnownHosts.is (counted-so _ c.push_records-in-KnownHosts.result text (of_all counts) left c.push_records-in-KnownHosts.ensures.counts)

pub returns-in-KnownHosts-clause-section : goal.returns-in-KnownHosts-clause-section
returns-in-KnownHosts-clause-section c =
    let file = c.args.file.now in
    let asking = asking_of c.args.asked.now in
    let lines = numbered 1 (lines_of file) in
    let text = shown_records All (host_line_reports_of (AsRow c.args.number) asking c.args.name.now [] lines) in
    let counts = host_counts_of asking [] lines in
    let left = c.known_records-begun.ensures.left All (AsRow c.args.number) asking c.args.name.now in
    rw c.in-KnownHosts.is (made-so c.push_records-in-KnownHosts.result _ _ (λ made.
    section-made KnownHosts c.args.number (seen_so c.args.name.now counts (sha256 file)) counts (host_rows_of c.args.number asking [] lines) text _ _
    (hosts-all-shown (AsRow c.args.number) asking c.args.name.now [] lines ∙ host-rows-marks c.args.number asking c.args.name.now [] lines) (made text (of_all counts) left)) (rw c.in-KnownHosts.is at c.push_records-in-KnownHosts.ensures.section))

pub returns-in-KnownHosts-clause-row : goal.returns-in-KnownHosts-clause-row
returns-in-KnownHosts-clause-row c =
    let file = c.args.file.now in
    let asking = asking_of c.args.asked.now in
    let lines = numbered 1 (lines_of file) in
    let text = shown_records All (host_line_reports_of (AsRow c.args.number) asking c.args.name.now [] lines) in
    let counts = host_counts_of asking [] lines in
    let left = c.known_records-begun.ensures.left All (AsRow c.args.number) asking c.args.name.now in
    rw c.in-KnownHosts.is (made-so c.push_records-in-KnownHosts.result _ _ (λ made. made text (of_all counts) left) c.push_records-in-KnownHosts.ensures.row)

pub returns-in-AuthorizedKeys-clause-noted : goal.returns-in-AuthorizedKeys-clause-noted
returns-in-AuthorizedKeys-clause-noted c =
    rw c.in-AuthorizedKeys.is (keys-noted AuthorizedKeys c.args.file.now c.auth_records-begun.result c.args.keys.now c.push_records.new.keys c.push_records.result c.auth_records-begun.ensures.lines c.push_records.ensures.noted)

pub returns-in-KnownHosts-clause-noted : goal.returns-in-KnownHosts-clause-noted
returns-in-KnownHosts-clause-noted c =
    rw c.in-KnownHosts.is (keys-noted KnownHosts c.args.file.now c.known_records-begun.result c.args.keys.now c.push_records-in-KnownHosts.new.keys c.push_records-in-KnownHosts.result c.known_records-begun.ensures.lines c.push_records-in-KnownHosts.ensures.noted)
