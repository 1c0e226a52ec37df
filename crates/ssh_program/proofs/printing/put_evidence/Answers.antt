use Rattle.ssh_program.proofs.Imports.{◌+◌, drop, evidence_from, evidence_line}
use Rattle.ssh_print.specs.DecisionText.{evidence_lines}
use Rattle.ssh_program.proofs.EvidenceText.{lines_there}
use Rattle.ssh_program.proofs.WrittenText.{at_first, broken_on, none_failed, on_err, taken_on}
use Rattle.ssh_program.proofs.printing.put_evidence.Goals as goal

pub loop-index-init : goal.loop-index-init
unfolding evidence_lines
loop-index-init g c = (at_first (g.W.Sink.account c.args.writer.now) (evidence_lines c.args.evidence.now), c.requires)

pub returns-in_err-put_evidence_line-clause-err : goal.returns-in_err-put_evidence_line-clause-err
returns-in_err-put_evidence_line-clause-err g c =
    let evidence = c.args.evidence.now in
    let i = c.loop-index.index in
    let item = c.index-evidence-index.result in
    on_err _ _ (broken_on (g.W.Sink.account c.args.writer.now) (g.W.Sink.account c.loop-index.writer) (g.W.Sink.account c.put_evidence_line.new.writer)
    (evidence_lines evidence) (evidence_from i (drop i evidence)) (evidence_line i item) (evidence_from (i + 1) (drop (i + 1) evidence)) c.loop-index.invariant.0
    (lines_there evidence i _ item c.loop-index-test.true c.index-evidence-index.is) c.in_err-put_evidence_line.ensures.err)

pub loop-index-preserved : goal.loop-index-preserved
loop-index-preserved g c =
    let evidence = c.args.evidence.now in
    let i = c.loop-index.index in
    let item = c.index-evidence-index.result in
    let before = g.W.Sink.account c.loop-index.writer in
    let after = g.W.Sink.account c.put_evidence_line.new.writer in (
      taken_on (g.W.Sink.account c.args.writer.now) before after
          (evidence_lines evidence) (evidence_from i (drop i evidence)) (evidence_line i item) (evidence_from (i + 1) (drop (i + 1) evidence)) c.loop-index.invariant.0
          (lines_there evidence i _ item c.loop-index-test.true c.index-evidence-index.is) c.in_ok-put_evidence_line.ensures.ok,
      none_failed before after (evidence_line i item) c.in_ok-put_evidence_line.ensures.ok c.loop-index.invariant.1,
    )
