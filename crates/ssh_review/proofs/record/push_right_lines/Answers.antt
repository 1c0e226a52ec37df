use Rattle.ssh_review.proofs.Imports.{◌∙◌, ◌++◌, ap, flat_map, carried_inset}
use Rattle.ssh_review.specs.Records.{right_lines}
use Rattle.ssh_review.proofs.Appended.{both}
use Rattle.ssh_review.proofs.record.push_right_lines.Goals as goal

pub returns : goal.returns
unfolding right_lines
returns c =
    both _ _ _ _ _ (both _ _ _ _ _ c.in_ok-push_rights.ensures c.in_ok-push_setting.ensures)
    (c.in_ok-push_each_carried.ensures ∙ ap (λ texts. c.push_setting.new.out.items ++ flat_map carried_inset texts) c.as_slice.ensures)
