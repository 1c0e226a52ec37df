use Rattle.ssh_program.proofs.Imports.{List, ℕ, subst, Breaks, TakesAll, escaped_text}
use Rattle.ssh_program.proofs.WrittenText.{first_broken, on_err, second_broken}
use Rattle.ssh_program.proofs.printing.put_part.Goals as goal

pub returns-in_err-put_bytes-clause-err : goal.returns-in_err-put_bytes-clause-err
returns-in_err-put_bytes-clause-err g c =
    let old = g.W.Sink.account c.args.writer.now in
    let new = g.W.Sink.account c.put_bytes.new.writer in
    on_err _ _ (first_broken old new c.args.part.now.bytes.items (escaped_text c.args.part.now.name)
    (subst (λ (l : List ℕ). Breaks old new l) c.deref.ensures.value c.in_err-put_bytes.ensures.err))

pub returns-in_err-put_name-clause-err : goal.returns-in_err-put_name-clause-err
returns-in_err-put_name-clause-err g c =
    let old = g.W.Sink.account c.args.writer.now in
    let mid = g.W.Sink.account c.put_bytes.new.writer in
    let new = g.W.Sink.account c.put_name.new.writer in
    on_err _ _ (second_broken old mid new c.args.part.now.bytes.items (escaped_text c.args.part.now.name)
    (subst (λ (l : List ℕ). TakesAll old mid l) c.deref.ensures.value c.in_ok-put_bytes.ensures.ok)
    (subst (λ (l : List ℕ). Breaks mid new (escaped_text l)) c.as_slice.ensures c.in_err-put_name.ensures.err))
