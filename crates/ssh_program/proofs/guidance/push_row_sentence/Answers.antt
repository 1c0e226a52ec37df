use Rattle.ssh_program.proofs.Imports.{codes}
use Rattle.ssh_print.specs.Explaining.{row_text}
use Rattle.ssh_print.specs.Table.{code_row}
use Rattle.ssh_review.proofs.Appended.{both}
use Rattle.ssh_program.proofs.guidance.push_row_sentence.Goals as goal

pub returns : goal.returns
returns c =
    both c.args.out.now.items (codes "ssh_audit: fault ") (row_text (code_row c.args.row)) c.extend_from_slice.new.self.items c.push_row.new.out.items
    c.in_ok-extend_from_slice.ensures.items c.in_ok-push_row.ensures
