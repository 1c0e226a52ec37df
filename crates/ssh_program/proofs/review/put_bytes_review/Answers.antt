use Rattle.ssh_program.proofs.Imports.{AsLines, [], asking_of, lines_of}
use Rattle.ssh_text.specs.Text.{numbered}
use Rattle.ssh_review.specs.HostLines.{host_counts_of}
use Rattle.ssh_review.specs.Lines.{counts_of}
use Rattle.ssh_review.specs.ShownRecords.{shown_records}
use Rattle.ssh_review.specs.LineReports.{host_line_reports_of, line_reports_of, of_all}
use Rattle.ssh_page.specs.declared.file.FileKind.TheVariants.{AuthorizedKeys, KnownHosts}
use Rattle.ssh_review.proofs.DistinctLemmas.{keys-noted}
use Rattle.ssh_program.proofs.FileLemmas.{auth-put, known-put}
use Rattle.ssh_program.proofs.review.put_bytes_review.Goals as goal

pub returns-in-Auth-clause-put : goal.returns-in-Auth-clause-put
returns-in-Auth-clause-put g c =
    let file = c.args.file.now in
    let asking = asking_of c.args.asked.now in
    let lines = numbered 1 (lines_of file) in
    rw c.in-Auth.is (auth-put c.args.show c.args.form asking c.args.head.now file (g.W.Sink.account c.args.writer.now) (g.W.Sink.account c.put_review.new.writer) c.put_review.result c.requires.limit
    (c.put_review.ensures.put (shown_records c.args.show (line_reports_of (AsLines c.args.form) asking c.args.head.now [] lines)) (of_all (counts_of asking [] lines)) (c.auth_records-records.ensures.left c.args.show (AsLines c.args.form) asking c.args.head.now)))

pub returns-in-Known-clause-put : goal.returns-in-Known-clause-put
returns-in-Known-clause-put g c =
    let file = c.args.file.now in
    let asking = asking_of c.args.asked.now in
    let lines = numbered 1 (lines_of file) in
    rw c.in-Known.is (known-put c.args.show c.args.form asking c.args.head.now file (g.W.Sink.account c.args.writer.now) (g.W.Sink.account c.put_review-in-Known.new.writer) c.put_review-in-Known.result c.requires.limit
    (c.put_review-in-Known.ensures.put (shown_records c.args.show (host_line_reports_of (AsLines c.args.form) asking c.args.head.now [] lines)) (of_all (host_counts_of asking [] lines)) (c.known_records-records.ensures.left c.args.show (AsLines c.args.form) asking c.args.head.now)))

pub returns-in-Auth-clause-noted : goal.returns-in-Auth-clause-noted
returns-in-Auth-clause-noted g c =
    rw c.in-Auth.is (keys-noted AuthorizedKeys c.args.file.now c.auth_records-records.result c.args.keys.now c.put_review.new.keys c.put_review.result c.auth_records-records.ensures.lines c.put_review.ensures.noted)

pub returns-in-Known-clause-noted : goal.returns-in-Known-clause-noted
returns-in-Known-clause-noted g c =
    rw c.in-Known.is (keys-noted KnownHosts c.args.file.now c.known_records-records.result c.args.keys.now c.put_review-in-Known.new.keys c.put_review-in-Known.result c.known_records-records.ensures.lines c.put_review-in-Known.ensures.noted)
