use Rattle.ssh_program.proofs.Imports.{◌≡◌, ◌++◌, drop, flat_map}
use Rattle.ssh_program.specs.Help.{command_line}
use Rattle.ssh_program.proofs.help.push_command_lines.Given as goal

abbrev pub invariant-loop-command : goal.invariant-loop-command
invariant-loop-command l = l.out.items ++ flat_map command_line (drop l.command-index l.commands) ≡ l.initial.out.items ++ flat_map command_line l.commands
