use Rattle.ssh_program.proofs.Imports.{◌≡◌, ◌++◌, [], List, ℕ, sym, append-nil, take-append-drop}
use Rattle.std.specs.Prelude.{take}
use Rattle.ssh_page.specs.Expanding.{mark_html, page}
use Rattle.ssh_program.proofs.WrittenText.{broken_on, joined_map, none_failed, on_err, taken_on}
use Rattle.ssh_program.proofs.review_page.put_html.Goals as goal

-- the page of marks is that of those at the front and that of those behind
page-cut : (rest : List ℕ) (count : ℕ) (behind : List ℕ) → rest ≡ take count rest ++ behind → page rest ≡ page (take count rest) ++ page behind
page-cut rest count behind cut = joined_map mark_html rest (take count rest) behind cut

pub returns-in_err-count-clause-err : goal.returns-in_err-count-clause-err
returns-in_err-count-clause-err g c =
    let rest = c.loop-rest.rest.now in
    on_err _ _ (broken_on (g.W.Sink.account c.args.writer.now) (g.W.Sink.account c.loop-rest.writer) (g.W.Sink.account c.put_front.new.writer)
    (page c.args.marks.now) (page rest) (page rest) [] c.loop-rest.invariant.0 (sym (append-nil (page rest))) c.in_err-count.ensures.err)

pub loop-rest-preserved : goal.loop-rest-preserved
loop-rest-preserved g c =
    let rest = c.loop-rest.rest.now in
    let count = c.in_ok-count.count in
    let behind = c.split_at.result.1.now in
    let whole : rest ≡ take count rest ++ behind = rw c.split_at.ensures.back (sym (take-append-drop count rest)) in
    let before = g.W.Sink.account c.loop-rest.writer in
    let after = g.W.Sink.account c.put_front.new.writer in (
      taken_on (g.W.Sink.account c.args.writer.now) before after (page c.args.marks.now) (page rest) (page (take count rest)) (page behind) c.loop-rest.invariant.0
          (page-cut rest count behind whole) c.in_ok-count.ensures.ok,
      none_failed before after (page (take count rest)) c.in_ok-count.ensures.ok c.loop-rest.invariant.1,
    )
