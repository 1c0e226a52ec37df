use Rattle.ssh_program.proofs.Imports.{◌≡◌, map, take}
use Rattle.ssh_review.specs.FileNames.{shown_name}
use Rattle.ssh_program.specs.Namings.{named}
use Rattle.ssh_program.proofs.naming.shown_names.Given as goal

abbrev pub invariant-loop-word : goal.invariant-loop-word
invariant-loop-word l = l.shown.items ≡ map shown_name (map (λ word. named l.names.naming word.now) (take l.word-index l.names.words.now))
