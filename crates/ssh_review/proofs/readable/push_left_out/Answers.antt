use Rattle.std.specs.Prelude.{codes}
use Rattle.std.specs.Fmt.{decimal}
use Rattle.ssh_review.proofs.Imports.{detail_part}
use Rattle.ssh_review.specs.Readable.{left_out_line}
use Rattle.ssh_review.proofs.ReadableLemmas.{six-parts}
use Rattle.ssh_review.proofs.readable.push_left_out.Goals as goal

pub returns : goal.returns
unfolding left_out_line
returns c =
    six-parts c.args.out.now.items (codes "ssh_audit: line ") (decimal c.args.number) (codes " left out: ") c.args.code.now (detail_part c.args.detail_text.now) (codes "\n")
    c.extend_from_slice.new.self.items c.push_number.new.out.items c.extend_from_slice-2.new.self.items c.extend_from_slice-3.new.self.items
    c.push_detail.new.out.items c.push.new.self.items
    c.in_ok-extend_from_slice.ensures.items c.in_ok-push_number.ensures.ok c.in_ok-extend_from_slice-2.ensures.items c.in_ok-extend_from_slice-3.ensures.items
    c.in_ok-push_detail.ensures c.in_ok-push.ensures.items
