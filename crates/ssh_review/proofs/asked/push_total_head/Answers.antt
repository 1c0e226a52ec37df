use Rattle.ssh_review.proofs.Imports.{◌++◌, codes, number_field}
use Rattle.ssh_review.specs.Asked.{program_field, total_head}
use Rattle.ssh_review.proofs.Appended.{both}
use Rattle.ssh_review.proofs.asked.push_total_head.Goals as goal

pub returns : goal.returns
unfolding total_head
returns c =
    let out = c.args.out.now.items in
    let is = codes "{\"what\":\"total\"" in
    let format = number_field (codes "format") 2 in
    let reported = both out is format _ _ c.in_ok-extend_from_slice.ensures.items c.in_ok-push_number_field.ensures in
    both out (is ++ format) program_field _ _ reported c.in_ok-push_program.ensures
