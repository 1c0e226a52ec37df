use Rattle.ssh_program.proofs.Imports.{◌≡◌, drop, map}
use Rattle.ssh_program.specs.Complaints.{first_wrong, option_wrong}
use Rattle.ssh_program.specs.Options.{reported_options}
use Rattle.ssh_program.specs.WordPlacesView.{word_seen}
use Rattle.ssh_program.proofs.complaint.options_complaint.Given as goal

abbrev pub invariant-loop-row : goal.invariant-loop-row
invariant-loop-row l = first_wrong (option_wrong l.fn.command (map word_seen l.words)) (reported_options l.fn.command) ≡ first_wrong (option_wrong l.fn.command (map word_seen l.words)) (drop l.row-index l.row-items)
