use Rattle.ssh_program.proofs.Imports.{◌≡◌, ◌++◌, drop, flat_map, map}
use Rattle.std.specs.Prelude.{string_bytes}
use Rattle.ssh_program.specs.Defaults.{reported_words}
use Rattle.ssh_program.specs.DefaultsView.{around_seen}
use Rattle.ssh_program.specs.WordPlacesView.{word_seen}
use Rattle.ssh_program.proofs.reported.push_words.Given as goal

abbrev pub invariant-loop-word : goal.invariant-loop-word
invariant-loop-word l = map string_bytes l.out.items ++ flat_map (reported_words l.is_apart (around_seen l.around)) (map word_seen (drop l.word-index l.words)) ≡ map string_bytes l.initial.out.items ++ flat_map (reported_words l.is_apart (around_seen l.around)) (map word_seen l.words)
