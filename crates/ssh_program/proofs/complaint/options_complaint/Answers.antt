use Rattle.ssh_program.proofs.Imports.{map, at_drop_more}
use Rattle.ssh_program.specs.Complaints.{option_wrong}
use Rattle.ssh_program.specs.WordPlacesView.{word_seen}
use Rattle.ssh_program.proofs.ComplaintLemmas.{wrong_later}
use Rattle.ssh_program.proofs.complaint.options_complaint.Goals as goal

pub loop-row-preserved : goal.loop-row-preserved
loop-row-preserved c =
    wrong_later (option_wrong c.args.command (map word_seen c.args.words.now)) _ _ _ _
    (at_drop_more (λ rows. rows) c.reported_options-row-items.result.now c.loop-row.row-index _ c.loop-row-test.true)
    c.in_default.ensures c.loop-row.invariant
