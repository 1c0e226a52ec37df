use Rattle.ssh_program.proofs.Imports.{◌≡◌, ◌++◌, drop, map}
use Rattle.ssh_program.specs.WordPlaces.{in_turn, words_from}
use Rattle.ssh_program.specs.WordPlacesView.{word_seen}
use Rattle.ssh_program.proofs.word.in_turn.Given as goal

abbrev pub invariant-loop-word : goal.invariant-loop-word
invariant-loop-word l = map word_seen l.turn.items ++ words_from l.before l.place (map (λ word. word.now) (drop l.word-index l.words)) ≡ in_turn (map (λ word. word.now) l.words)
