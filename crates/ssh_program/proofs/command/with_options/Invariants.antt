use Rattle.ssh_program.proofs.Imports.{◌≡◌, take, app_of, with_options}
use Rattle.ssh_program.proofs.command.with_options.Given as goal

abbrev pub invariant-loop-row : goal.invariant-loop-row
invariant-loop-row l = app_of l.command ≡ with_options (app_of l.fn.command) (take l.row-index l.rows)
