use Rattle.ssh_program.proofs.Imports.{◌≡◌, ◌∙◌, ◌++◌, List, ℕ, ap, sym, take-append-drop, hex_pair, hex_digits}
use Rattle.ssh_program.proofs.WrittenText.{broken_on, joined_map, none_failed, on_err, taken_on}
use Rattle.ssh_program.proofs.printing.put_digits.Goals as goal

-- the digits of bytes are those of the front and those of what is behind
cut-there : (rest front behind piece : List ℕ) → rest ≡ front ++ behind → piece ≡ hex_digits front → hex_digits rest ≡ piece ++ hex_digits behind
cut-there rest front behind piece cut is = joined_map hex_pair rest front behind cut ∙ ap (λ l. l ++ hex_digits behind) (sym is)

pub returns-in_err-put_bytes-clause-err : goal.returns-in_err-put_bytes-clause-err
returns-in_err-put_bytes-clause-err g c =
    let rest = c.loop-rest.rest.now in
    let front = c.split_at.result.0.now in
    let behind = c.split_at.result.1.now in
    let whole : rest ≡ front ++ behind = rw (c.split_at.ensures.front, c.split_at.ensures.back) (sym (take-append-drop c.min.result rest)) in
    on_err _ _ (broken_on (g.W.Sink.account c.args.writer.now) (g.W.Sink.account c.loop-rest.writer) (g.W.Sink.account c.put_bytes.new.writer)
    (hex_digits c.args.value.now) (hex_digits rest) c.as_slice.result.now (hex_digits behind) c.loop-rest.invariant.0
    (cut-there rest front behind c.as_slice.result.now whole (c.as_slice.ensures ∙ c.new-piece.ensures)) c.in_err-put_bytes.ensures.err)

pub loop-rest-preserved : goal.loop-rest-preserved
loop-rest-preserved g c =
    let rest = c.loop-rest.rest.now in
    let front = c.split_at.result.0.now in
    let behind = c.split_at.result.1.now in
    let whole : rest ≡ front ++ behind = rw (c.split_at.ensures.front, c.split_at.ensures.back) (sym (take-append-drop c.min.result rest)) in
    let before = g.W.Sink.account c.loop-rest.writer in
    let after = g.W.Sink.account c.put_bytes.new.writer in (
      taken_on (g.W.Sink.account c.args.writer.now) before after
          (hex_digits c.args.value.now) (hex_digits rest) c.as_slice.result.now (hex_digits behind) c.loop-rest.invariant.0
          (cut-there rest front behind c.as_slice.result.now whole (c.as_slice.ensures ∙ c.new-piece.ensures)) c.in_ok-put_bytes.ensures.ok,
      none_failed before after c.as_slice.result.now c.in_ok-put_bytes.ensures.ok c.loop-rest.invariant.1,
    )
