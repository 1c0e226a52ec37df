use Rattle.ssh_program.proofs.Imports.{◌≡◌, ◌++◌, drop, flat_map, map}
use Rattle.ssh_program.specs.FilesFrom.{kept_words}
use Rattle.ssh_program.specs.WordPlacesView.{word_seen}
use Rattle.ssh_program.proofs.files_from.push_kept.Given as goal

abbrev pub invariant-loop-word : goal.invariant-loop-word
invariant-loop-word l = map (λ word. word.now) l.out.items ++ flat_map kept_words (map word_seen (drop l.word-index l.words)) ≡ map (λ word. word.now) l.initial.out.items ++ flat_map kept_words (map word_seen l.words)
