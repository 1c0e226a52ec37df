use Rattle.ssh_program.proofs.Imports.{◌++◌, List, ℕ, subst, Breaks}
use Rattle.ssh_program.proofs.WrittenText.{on_err}
use Rattle.ssh_program.proofs.EvidenceText.{end_broken, field, field_taken, key_broken, line_taken, message_broken, number_broken, numbered, signature_broken}
use Rattle.ssh_program.proofs.printing.put_evidence_line.Goals as goal

pub returns-in_err-put_numbered-clause-err : goal.returns-in_err-put_numbered-clause-err
returns-in_err-put_numbered-clause-err g c =
    on_err _ _ (number_broken (g.W.Sink.account c.args.writer.now) (g.W.Sink.account c.put_numbered.new.writer) c.args.index c.args.signed.now
    c.in_err-put_numbered.ensures.err)

pub returns-in_err-put_field-clause-err : goal.returns-in_err-put_field-clause-err
returns-in_err-put_field-clause-err g c =
    let mid = g.W.Sink.account c.put_numbered.new.writer in
    let new = g.W.Sink.account c.put_field.new.writer in
    on_err _ _ (key_broken (g.W.Sink.account c.args.writer.now) mid new c.args.index c.args.signed.now c.in_ok-put_numbered.ensures.ok
    (subst (λ (l : List ℕ). Breaks mid new (field l)) c.as_slice.ensures c.in_err-put_field.ensures.err))

pub returns-in_err-put_field-2-clause-err : goal.returns-in_err-put_field-2-clause-err
returns-in_err-put_field-2-clause-err g c =
    let old = g.W.Sink.account c.args.writer.now in
    let said = c.args.signed.now in
    let mid = g.W.Sink.account c.put_field.new.writer in
    let new = g.W.Sink.account c.put_field-2.new.writer in
    on_err _ _ (message_broken old mid new c.args.index said
    (field_taken old (g.W.Sink.account c.put_numbered.new.writer) mid (numbered c.args.index) c.as_slice.result.now said.key c.as_slice.ensures
    c.in_ok-put_numbered.ensures.ok c.in_ok-put_field.ensures.ok)
    (subst (λ (l : List ℕ). Breaks mid new (field l)) c.as_slice-2.ensures c.in_err-put_field-2.ensures.err))

pub returns-in_err-put_field-3-clause-err : goal.returns-in_err-put_field-3-clause-err
returns-in_err-put_field-3-clause-err g c =
    let old = g.W.Sink.account c.args.writer.now in
    let said = c.args.signed.now in
    let front = g.W.Sink.account c.put_field.new.writer in
    let mid = g.W.Sink.account c.put_field-2.new.writer in
    let new = g.W.Sink.account c.put_field-3.new.writer in
    on_err _ _ (signature_broken old mid new c.args.index said
    (field_taken old front mid (numbered c.args.index ++ field said.key) c.as_slice-2.result.now said.message c.as_slice-2.ensures
    (field_taken old (g.W.Sink.account c.put_numbered.new.writer) front (numbered c.args.index) c.as_slice.result.now said.key c.as_slice.ensures
    c.in_ok-put_numbered.ensures.ok c.in_ok-put_field.ensures.ok)
    c.in_ok-put_field-2.ensures.ok)
    (subst (λ (l : List ℕ). Breaks mid new (field l)) c.as_slice-3.ensures c.in_err-put_field-3.ensures.err))

pub returns-in_err-put_bytes-clause-err : goal.returns-in_err-put_bytes-clause-err
returns-in_err-put_bytes-clause-err g c =
    let old = g.W.Sink.account c.args.writer.now in
    let said = c.args.signed.now in
    let front = g.W.Sink.account c.put_field.new.writer in
    let behind = g.W.Sink.account c.put_field-2.new.writer in
    let mid = g.W.Sink.account c.put_field-3.new.writer in
    on_err _ _ (end_broken old mid (g.W.Sink.account c.put_bytes.new.writer) c.args.index said
    (field_taken old behind mid ((numbered c.args.index ++ field said.key) ++ field said.message) c.as_slice-3.result.now said.signature c.as_slice-3.ensures
    (field_taken old front behind (numbered c.args.index ++ field said.key) c.as_slice-2.result.now said.message c.as_slice-2.ensures
    (field_taken old (g.W.Sink.account c.put_numbered.new.writer) front (numbered c.args.index) c.as_slice.result.now said.key c.as_slice.ensures
    c.in_ok-put_numbered.ensures.ok c.in_ok-put_field.ensures.ok)
    c.in_ok-put_field-2.ensures.ok)
    c.in_ok-put_field-3.ensures.ok)
    c.in_err-put_bytes.ensures.err)

pub returns-clause-ok : goal.returns-clause-ok
returns-clause-ok g c =
    let old = g.W.Sink.account c.args.writer.now in
    let said = c.args.signed.now in
    let front = g.W.Sink.account c.put_field.new.writer in
    let behind = g.W.Sink.account c.put_field-2.new.writer in
    let mid = g.W.Sink.account c.put_field-3.new.writer in
    line_taken old mid (g.W.Sink.account c.put_bytes.new.writer) c.args.index said
    (field_taken old behind mid ((numbered c.args.index ++ field said.key) ++ field said.message) c.as_slice-3.result.now said.signature c.as_slice-3.ensures
    (field_taken old front behind (numbered c.args.index ++ field said.key) c.as_slice-2.result.now said.message c.as_slice-2.ensures
    (field_taken old (g.W.Sink.account c.put_numbered.new.writer) front (numbered c.args.index) c.as_slice.result.now said.key c.as_slice.ensures
    c.in_ok-put_numbered.ensures.ok c.in_ok-put_field.ensures.ok)
    c.in_ok-put_field-2.ensures.ok)
    c.in_ok-put_field-3.ensures.ok)
    c.in_ok-put_bytes.ensures.ok
