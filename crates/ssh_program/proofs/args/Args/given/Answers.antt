use Rattle.ssh_program.proofs.Imports.{◌∙◌, ap, first_of, found_of, first_value-rows, rows_in}
use Rattle.ssh_program.proofs.args.Args.given.Goals as goal

pub returns : goal.returns
returns c =
    c.get_str.ensures ∙ (first_value-rows (found_of c.args.self.now.matches) c.name.result.now ∙ ap (λ n. first_of n (rows_in c.args.self.now)) c.name.ensures)
