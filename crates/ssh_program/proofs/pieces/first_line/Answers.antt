use Rattle.ssh_program.proofs.Imports.{refl}
use Rattle.ssh_program.proofs.PieceLemmas.{line-piece, rest-piece}
use Rattle.ssh_program.proofs.pieces.first_line.Goals as goal

pub returns-in-Some : goal.returns-in-Some
returns-in-Some c = line-piece c.args.text.now c.in-Some.end _ c.in-Some.ensures.0.high c.in-Some.ensures.0.before c.in-Some.ensures.1 refl

pub returns-in-None : goal.returns-in-None
returns-in-None c = rest-piece c.args.text.now c.in-None.ensures
