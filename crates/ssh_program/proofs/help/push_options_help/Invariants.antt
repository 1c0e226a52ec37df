use Rattle.ssh_program.proofs.Imports.{◌≡◌, ◌++◌, drop, flat_map}
use Rattle.ssh_program.specs.Help.{help_option}
use Rattle.ssh_program.proofs.help.push_options_help.Given as goal

abbrev pub invariant-loop-row : goal.invariant-loop-row
invariant-loop-row l = l.out.items ++ flat_map (help_option l.command) (drop l.row-index l.rows) ≡ l.initial.out.items ++ flat_map (help_option l.command) l.rows
