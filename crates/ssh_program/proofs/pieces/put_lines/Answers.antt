use Rattle.ssh_program.proofs.Imports.{◌≡◌, ◌++◌, sym, take-append-drop}
use Rattle.ssh_program.proofs.WrittenText.{broken_on, none_failed, on_err, taken_on}
use Rattle.ssh_program.proofs.pieces.put_lines.Goals as goal

pub returns-in_err-put_bytes-clause-err : goal.returns-in_err-put_bytes-clause-err
returns-in_err-put_bytes-clause-err g c =
    let rest = c.loop-rest.rest.now in
    let piece = c.split_at.result.0.now in
    let behind = c.split_at.result.1.now in
    let whole : rest ≡ piece ++ behind = rw (c.split_at.ensures.front, c.split_at.ensures.back) (sym (take-append-drop c.piece_len.result rest)) in
    on_err _ _ (broken_on (g.W.Sink.account c.args.writer.now) (g.W.Sink.account c.loop-rest.writer) (g.W.Sink.account c.put_bytes.new.writer)
    c.args.text.now rest piece behind c.loop-rest.invariant.0 whole c.in_err-put_bytes.ensures.err)

pub loop-rest-preserved : goal.loop-rest-preserved
loop-rest-preserved g c =
    let rest = c.loop-rest.rest.now in
    let piece = c.split_at.result.0.now in
    let behind = c.split_at.result.1.now in
    let whole : rest ≡ piece ++ behind = rw (c.split_at.ensures.front, c.split_at.ensures.back) (sym (take-append-drop c.piece_len.result rest)) in
    let before = g.W.Sink.account c.loop-rest.writer in
    let after = g.W.Sink.account c.put_bytes.new.writer in (
      taken_on (g.W.Sink.account c.args.writer.now) before after c.args.text.now rest piece behind c.loop-rest.invariant.0 whole c.in_ok-put_bytes.ensures.ok,
      none_failed before after piece c.in_ok-put_bytes.ensures.ok c.loop-rest.invariant.1,
    )
