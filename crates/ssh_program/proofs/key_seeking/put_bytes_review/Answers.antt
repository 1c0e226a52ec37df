use Rattle.ssh_program.proofs.Imports.{AsLines, [], asking_of, lines_of}
use Rattle.ssh_text.specs.Text.{numbered}
use Rattle.ssh_review.specs.HostKeyRecords.{host_key_counts_of, host_key_records_of}
use Rattle.ssh_review.specs.KeyRecords.{key_counts_of, key_records_of}
use Rattle.ssh_program.proofs.KeySeekingLemmas.{auth-key-put, known-key-put}
use Rattle.ssh_program.proofs.key_seeking.put_bytes_review.Goals as goal

pub returns-in-Auth-clause-put : goal.returns-in-Auth-clause-put
returns-in-Auth-clause-put g c =
    let file = c.args.file.now in
    let wanted = c.args.wanted.now in
    let asking = asking_of c.args.asked.now in
    let lines = numbered 1 (lines_of file) in
    rw c.in-Auth.is (auth-key-put wanted c.args.form asking c.args.head.now file (g.W.Sink.account c.args.writer.now) (g.W.Sink.account c.put_review.new.writer) c.put_review.result c.requires.limit
    (c.put_review.ensures.put (key_records_of wanted (AsLines c.args.form) asking c.args.head.now [] lines) (key_counts_of wanted asking [] lines) (c.auth_key_records-records.ensures (AsLines c.args.form) asking c.args.head.now)))

pub returns-in-Known-clause-put : goal.returns-in-Known-clause-put
returns-in-Known-clause-put g c =
    let file = c.args.file.now in
    let wanted = c.args.wanted.now in
    let asking = asking_of c.args.asked.now in
    let lines = numbered 1 (lines_of file) in
    rw c.in-Known.is (known-key-put wanted c.args.form asking c.args.head.now file (g.W.Sink.account c.args.writer.now) (g.W.Sink.account c.put_review-in-Known.new.writer) c.put_review-in-Known.result c.requires.limit
    (c.put_review-in-Known.ensures.put (host_key_records_of wanted (AsLines c.args.form) asking c.args.head.now [] lines) (host_key_counts_of wanted asking [] lines) (c.known_key_records-records.ensures (AsLines c.args.form) asking c.args.head.now)))
