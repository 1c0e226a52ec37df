use Rattle.ssh_program.proofs.Imports.{◌∙◌, List, ℕ, subst, decimal, Breaks}
use Rattle.ssh_program.proofs.WrittenText.{first_broken, on_err, second_broken}
use Rattle.ssh_program.proofs.printing.put_numbered.Goals as goal

pub returns-in_err-put_bytes-clause-err : goal.returns-in_err-put_bytes-clause-err
returns-in_err-put_bytes-clause-err g c =
    on_err _ _ (first_broken (g.W.Sink.account c.args.writer.now) (g.W.Sink.account c.put_bytes.new.writer) c.args.word.now (decimal c.args.number)
    c.in_err-put_bytes.ensures.err)

pub returns-in_err-put_bytes-2-clause-err : goal.returns-in_err-put_bytes-2-clause-err
returns-in_err-put_bytes-2-clause-err g c =
    let mid = g.W.Sink.account c.put_bytes.new.writer in
    let new = g.W.Sink.account c.put_bytes-2.new.writer in
    on_err _ _ (second_broken (g.W.Sink.account c.args.writer.now) mid new c.args.word.now (decimal c.args.number) c.in_ok-put_bytes.ensures.ok
    (subst (λ (l : List ℕ). Breaks mid new l) (c.as_bytes.ensures.value ∙ c.format.ensures.text) c.in_err-put_bytes-2.ensures.err))
