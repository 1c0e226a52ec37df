use Rattle.ssh_program.proofs.Imports.{◌≡◌, drop, map}
use Rattle.ssh_program.specs.FilesFrom.{first_list}
use Rattle.ssh_program.specs.WordPlacesView.{word_seen}
use Rattle.ssh_program.proofs.files_from.first_list.Given as goal

abbrev pub invariant-loop-word : goal.invariant-loop-word
invariant-loop-word l = first_list (map word_seen l.words) ≡ first_list (map word_seen (drop l.word-index l.words))
