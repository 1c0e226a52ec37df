use Rattle.ssh_program.proofs.Imports.{◌≡◌, bytes_eq, drop, find}
use Rattle.ssh_program.specs.Options.{option_word, reported_options}
use Rattle.ssh_program.proofs.guidance.option_of.Given as goal

abbrev pub invariant-loop-row : goal.invariant-loop-row
invariant-loop-row l = find (λ row. bytes_eq (option_word row.0) l.name) (reported_options l.fn.command) ≡ find (λ row. bytes_eq (option_word row.0) l.name) (drop l.row-index l.row-items)
