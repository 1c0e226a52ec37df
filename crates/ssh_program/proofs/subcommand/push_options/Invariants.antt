use Rattle.ssh_program.proofs.Imports.{◌≡◌, ◌++◌, drop, flat_map, usage_option}
use Rattle.ssh_program.proofs.subcommand.push_options.Given as goal

abbrev pub invariant-loop-row : goal.invariant-loop-row
invariant-loop-row l = l.out.items ++ flat_map (usage_option l.subcommand) (drop l.row-index l.rows) ≡ l.initial.out.items ++ flat_map (usage_option l.subcommand) l.rows
