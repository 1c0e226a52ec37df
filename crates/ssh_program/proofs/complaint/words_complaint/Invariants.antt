use Rattle.ssh_program.proofs.Imports.{◌≡◌, drop, map}
use Rattle.ssh_program.specs.Complaints.{first_wrong, word_wrong}
use Rattle.ssh_program.specs.WordPlacesView.{word_seen}
use Rattle.ssh_program.proofs.complaint.words_complaint.Given as goal

abbrev pub invariant-loop-word : goal.invariant-loop-word
invariant-loop-word l = first_wrong (word_wrong l.command) (map word_seen l.words) ≡ first_wrong (word_wrong l.command) (map word_seen (drop l.word-index l.words))
