use Rattle.ssh_program.proofs.Imports.{◌≡◌, ◌++◌, drop, map, false}
use Rattle.std.specs.Prelude.{string_bytes}
use Rattle.ssh_program.specs.DefaultsLine.{added_words_part}
use Rattle.ssh_program.proofs.asked_with.push_added_words.Given as goal

abbrev pub invariant-loop-word : goal.invariant-loop-word
invariant-loop-word l = l.out.items ++ added_words_part l.is_time (map string_bytes (drop l.word-index l.added)) ≡ l.initial.out.items ++ added_words_part false (map string_bytes l.added)
