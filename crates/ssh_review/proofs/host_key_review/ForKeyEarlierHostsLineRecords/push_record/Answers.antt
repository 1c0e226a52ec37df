use Rattle.ssh_review.proofs.Imports.{asking_of, known_seen, refl}
use Rattle.ssh_review.proofs.HostStepLemmas.{known-key-next}
use Rattle.ssh_review.proofs.host_key_review.ForKeyEarlierHostsLineRecords.push_record.Goals as goal

pub returns-clause-record : goal.returns-clause-record
returns-clause-record c =
    λ file lines line_reports h.
    let reported = c.in_ok-reported.ensures in
    known-key-next c.args.form (asking_of c.args.asked.now) c.args.place.now.head.now file c.args.place.now.number c.args.line.now lines (known_seen c.read_known_view-view.result) c.args.self.now _
    c.args.out.now.items c.push_key_line.new.out.items line_reports c.in_ok-reported.reported refl c.read_known_view-view.ensures.exact h reported.text reported.counts reported.kept
