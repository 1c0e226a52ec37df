use Rattle.ssh_review.proofs.Imports.{◌∙◌, ◌++◌, ap, lines_of, numbered}
use Rattle.ssh_review.specs.Readable.{left_out, left_out_of}
use Rattle.ssh_review.proofs.ReadableLemmas.{left_out_at, reported-none, reported-step}
use Rattle.ssh_review.proofs.readable.left_out.Goals as goal

pub loop-number-preserved : goal.loop-number-preserved
loop-number-preserved c =
    let number = c.in-Some.number in
    let line = c.in-Some.line.now in
    let said = ap (left_out_of number) c.read_auth_view-view.ensures.exact in (
      tt,
      tt,
      reported-step left_out_at (number, line) (numbered (c.loop-number.number-iterator).0 (lines_of (c.loop-number.number-iterator).1))
          (numbered (c.next.new.self).0 (lines_of (c.next.new.self).1)) c.loop-number.text.items c.push_left_out_of.new.out.items _
          c.in-Some.ensures.steps (c.in_ok-push_left_out_of.ensures ∙ ap (λ t. c.loop-number.text.items ++ t) said) c.loop-number.invariant.2,
    )

pub returns : goal.returns
unfolding left_out
returns c =
    reported-none left_out_at (numbered (c.loop-number.number-iterator).0 (lines_of (c.loop-number.number-iterator).1)) c.loop-number.text.items _
    c.in-None.ensures.steps.0 c.loop-number.invariant.2
