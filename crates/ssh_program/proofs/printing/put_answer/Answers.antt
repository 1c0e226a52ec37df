use Rattle.ssh_program.proofs.Imports.{List, subst, Breaks, Signed, text_bytes}
use Rattle.ssh_print.specs.DecisionText.{evidence_lines}
use Rattle.ssh_program.proofs.WrittenText.{first_broken, on_err, second_broken}
use Rattle.ssh_program.proofs.printing.put_answer.Goals as goal

pub returns-in_err-put_text-clause-err : goal.returns-in_err-put_text-clause-err
returns-in_err-put_text-clause-err g c =
    on_err _ _ (first_broken (g.W.Sink.account c.args.writer.now) (g.W.Sink.account c.put_text.new.writer) (text_bytes c.args.answer.now.text)
    (evidence_lines c.args.answer.now.evidence) c.in_err-put_text.ensures.err)

pub returns-in_err-put_evidence-clause-err : goal.returns-in_err-put_evidence-clause-err
returns-in_err-put_evidence-clause-err g c =
    let mid = g.W.Sink.account c.put_text.new.writer in
    let new = g.W.Sink.account c.put_evidence.new.writer in
    on_err _ _ (second_broken (g.W.Sink.account c.args.writer.now) mid new (text_bytes c.args.answer.now.text) (evidence_lines c.args.answer.now.evidence)
    c.in_ok-put_text.ensures.ok
    (subst (λ (l : List Signed). Breaks mid new (evidence_lines l)) c.as_slice.ensures c.in_err-put_evidence.ensures.err))
