use Rattle.ssh_review.proofs.Imports.{◌∙◌, ◌++◌, sym, ap, lines_of, numbered}
use Rattle.ssh_review.specs.Readable.{kept_line}
use Rattle.ssh_review.proofs.ReadableLemmas.{all_kept, kept_at, reported-none, reported-step}
use Rattle.ssh_review.proofs.readable.readable_lines.Goals as goal

pub loop-number-preserved : goal.loop-number-preserved
loop-number-preserved c =
    let line = c.in-Some.line.now in
    let said = ap kept_line c.read_auth_view-view.ensures.exact in (
      tt,
      tt,
      reported-step kept_at (c.in-Some._number, line) (numbered (c.loop-number._number-iterator).0 (lines_of (c.loop-number._number-iterator).1))
          (numbered (c.next.new.self).0 (lines_of (c.next.new.self).1)) c.loop-number.new.items c.push_line.new.out.items _
          c.in-Some.ensures.steps (c.in_ok-push_line.ensures ∙ ap (λ t. c.loop-number.new.items ++ t) said) c.loop-number.invariant.2,
    )

pub returns : goal.returns
returns c =
    reported-none kept_at (numbered (c.loop-number._number-iterator).0 (lines_of (c.loop-number._number-iterator).1)) c.loop-number.new.items _
    c.in-None.ensures.steps.0 c.loop-number.invariant.2 ∙ sym (all_kept c.args.file.now)
