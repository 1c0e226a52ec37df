use Rattle.ssh_program.proofs.Imports.{◌∙◌, found_of, raw_values-rows, names_id}
use Rattle.ssh_program.proofs.args.Args.names.Goals as goal

pub returns : goal.returns
returns c = c.get_strs.ensures ∙ raw_values-rows (found_of c.args.self.now.matches) names_id
