use Rattle.ssh_program.proofs.Imports.{◌≡◌, ◌++◌, drop, flat_map, usage_line}
use Rattle.ssh_program.proofs.subcommand.push_lines.Given as goal

abbrev pub invariant-loop-subcommand : goal.invariant-loop-subcommand
invariant-loop-subcommand l = l.out.items ++ flat_map usage_line (drop l.subcommand-index l.subcommands) ≡ l.initial.out.items ++ flat_map usage_line l.subcommands
