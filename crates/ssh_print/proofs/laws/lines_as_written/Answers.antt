use Rattle.ssh_print.proofs.Imports.{lines_shown, unknown_shown}
use Rattle.ssh_print.proofs.laws.lines_as_written.Goals as goal

pub returns : goal.returns
returns c = record { lines = lines_shown; unknown = unknown_shown }
