use Rattle.std.proofs.Common.{◌∙◌, ◌++◌, ap, append_assoc, arith, length, length-drop, take}
use Rattle.ssh_page.specs.Expanding.{page}
use Rattle.ssh_page.specs.Rooms.{html_in}
use Rattle.ssh_page.proofs.ExpandLemmas.{front_more}
use Rattle.ssh_page.proofs.expanding.expand_front.Goals as goal

pub loop-count-preserved : goal.loop-count-preserved
loop-count-preserved c =
    let text = c.args.marks.now in
    let count = c.loop-count.count in
    let more = c.expand_next-taken.result in
    let front = page (take count text) in
    let back = c.split_at.ensures.back in (
      c.expand_next-taken.ensures.html ∙ ap (λ o. o ++ page (take more c.split_at.result.1.now)) c.loop-count.invariant.0
          ∙ append_assoc (html_in c.args.out.now) front (page (take more c.split_at.result.1.now))
          ∙ ap (λ b. html_in c.args.out.now ++ (front ++ page (take more b))) back
          ∙ ap (λ l. html_in c.args.out.now ++ l) (front_more text count more),
      omega (arith, c.expand_next-taken.ensures.within, ap (λ l. length l) back, length-drop count text, c.loop-count.invariant.1),
    )
