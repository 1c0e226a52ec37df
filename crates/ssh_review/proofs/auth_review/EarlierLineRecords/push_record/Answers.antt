use Rattle.ssh_review.proofs.Imports.{◌∙◌, ap, asking_of, line_seen}
use Rattle.ssh_review.specs.DistinctKeys.{auth_line_keys, with_keys}
use Rattle.ssh_review.proofs.StepLemmas.{auth-next}
use Rattle.ssh_review.proofs.auth_review.EarlierLineRecords.push_record.Goals as goal

pub returns-clause-noted : goal.returns-clause-noted
returns-clause-noted c = c.in_ok-counts.ensures.noted ∙ ap (λ said. with_keys c.args.keys.now (auth_line_keys said)) c.read_auth_view-view.ensures.exact

pub returns-clause-record : goal.returns-clause-record
returns-clause-record c =
    λ file lines line_reports h.
    let reported = c.in_ok-counts.ensures in
    auth-next c.args.form (asking_of c.args.asked.now) c.args.place.now.head.now file c.args.place.now.number c.args.line.now lines (line_seen c.read_auth_view-view.result) c.args.self.now c.push_line.new.earlier
    c.args.out.now.items c.push_line.new.out.items line_reports c.in_ok-counts.counts c.read_auth_view-view.ensures.exact h reported.text reported.counts reported.kept reported.bytes reported.keys
