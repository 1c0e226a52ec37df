use Rattle.ssh_program.proofs.FilesFromLemmas.{names_behind, operands_behind}
use Rattle.ssh_program.proofs.laws.list_rule.Goals as goal

pub returns : goal.returns
returns c = record { asked = names_behind; operands = operands_behind }
