use Rattle.ssh_print.proofs.Imports.{rows_are_found}
use Rattle.ssh_print.proofs.laws.rows_as_found.Goals as goal

pub returns : goal.returns
returns c = rows_are_found
