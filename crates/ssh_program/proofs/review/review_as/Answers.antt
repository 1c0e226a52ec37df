use Rattle.ssh_program.proofs.review.review_as.Goals as goal

pub returns-in-Lines : goal.returns-in-Lines
returns-in-Lines g c = rw c.in-Lines.is c.review_for.ensures
