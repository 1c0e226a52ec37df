use Rattle.ssh_program.proofs.Imports.{◌≡◌, ◌∙◌, ◌++◌, ◌+◌, ◌<◌, List, ℕ, ap, sym, drop, get_or, length, flat_map, drop_more, Part, part_bytes}
use Rattle.ssh_program.proofs.WrittenText.{broken_on, none_failed, on_err, taken_on}
use Rattle.ssh_program.proofs.printing.put_parts.Goals as goal

-- the bytes of the parts from a place on begin with those of the part there
from-there : (parts : List Part) (i : ℕ) (d item : Part) → i < length parts → item ≡ get_or parts i d
    → flat_map part_bytes (drop i parts) ≡ part_bytes item ++ flat_map part_bytes (drop (i + 1) parts)
from-there parts i d item lt is =
    ap (flat_map part_bytes) (drop_more parts i d lt) ∙ ap (λ x. part_bytes x ++ flat_map part_bytes (drop (i + 1) parts)) (sym is)

pub returns-in_err-put_part-clause-err : goal.returns-in_err-put_part-clause-err
returns-in_err-put_part-clause-err g c =
    let parts = c.args.parts.now in
    let i = c.loop-part.part-index in
    on_err _ _ (broken_on (g.W.Sink.account c.args.writer.now) (g.W.Sink.account c.loop-part.writer) (g.W.Sink.account c.put_part.new.writer)
    (flat_map part_bytes parts) (flat_map part_bytes (drop i parts)) (part_bytes c.part-item.result) (flat_map part_bytes (drop (i + 1) parts)) c.loop-part.invariant.0
    (from-there parts i _ c.part-item.result c.loop-part-test.true c.part-item.is) c.in_err-put_part.ensures.err)

pub loop-part-preserved : goal.loop-part-preserved
loop-part-preserved g c =
    let parts = c.args.parts.now in
    let i = c.loop-part.part-index in
    let before = g.W.Sink.account c.loop-part.writer in
    let after = g.W.Sink.account c.put_part.new.writer in (
      taken_on (g.W.Sink.account c.args.writer.now) before after
          (flat_map part_bytes parts) (flat_map part_bytes (drop i parts)) (part_bytes c.part-item.result) (flat_map part_bytes (drop (i + 1) parts)) c.loop-part.invariant.0
          (from-there parts i _ c.part-item.result c.loop-part-test.true c.part-item.is) c.in_ok-put_part.ensures.ok,
      none_failed before after (part_bytes c.part-item.result) c.in_ok-put_part.ensures.ok c.loop-part.invariant.1,
    )
