use Rattle.ssh_program.proofs.Imports.{◌≡◌, drop, find}
use Rattle.ssh_program.specs.Options.{reported_options}
use Rattle.ssh_program.specs.WordPlaces.{names_option}
use Rattle.ssh_program.proofs.complaint.row_named.Given as goal

abbrev pub invariant-loop-row : goal.invariant-loop-row
invariant-loop-row l = find (λ row. names_option row.0 l.word) (reported_options l.fn.command) ≡ find (λ row. names_option row.0 l.word) (drop l.row-index l.row-items)
