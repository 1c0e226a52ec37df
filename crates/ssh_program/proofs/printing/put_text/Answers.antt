use Rattle.ssh_program.proofs.Imports.{List, ℕ, subst, flat_map, Breaks, TakesAll, Part, part_bytes}
use Rattle.ssh_program.proofs.WrittenText.{first_broken, on_err, second_broken}
use Rattle.ssh_program.proofs.printing.put_text.Goals as goal

pub returns-in_err-put_parts-clause-err : goal.returns-in_err-put_parts-clause-err
returns-in_err-put_parts-clause-err g c =
    let old = g.W.Sink.account c.args.writer.now in
    let new = g.W.Sink.account c.put_parts.new.writer in
    on_err _ _ (first_broken old new (flat_map part_bytes c.args.text.now.parts.items) c.args.text.now.rest.items
    (subst (λ (l : List Part). Breaks old new (flat_map part_bytes l)) c.deref.ensures.value c.in_err-put_parts.ensures.err))

pub returns-in_err-put_bytes-clause-err : goal.returns-in_err-put_bytes-clause-err
returns-in_err-put_bytes-clause-err g c =
    let old = g.W.Sink.account c.args.writer.now in
    let mid = g.W.Sink.account c.put_parts.new.writer in
    let new = g.W.Sink.account c.put_bytes.new.writer in
    on_err _ _ (second_broken old mid new (flat_map part_bytes c.args.text.now.parts.items) c.args.text.now.rest.items
    (subst (λ (l : List Part). TakesAll old mid (flat_map part_bytes l)) c.deref.ensures.value c.in_ok-put_parts.ensures.ok)
    (subst (λ (l : List ℕ). Breaks mid new l) c.deref-2.ensures.value c.in_err-put_bytes.ensures.err))
