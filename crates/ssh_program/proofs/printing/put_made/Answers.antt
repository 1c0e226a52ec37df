use Rattle.ssh_program.proofs.Imports.{refl, subst, sym, response}
use Rattle.ssh_print.specs.Responses.{out_of_memory}
use Rattle.ssh_program.specs.Writing.{IsMade}
use Rattle.ssh_program.proofs.printing.put_made.Goals as goal

pub returns-in-Ok : goal.returns-in-Ok
returns-in-Ok g c = (response c.in-Ok.response, subst (λ made. IsMade made (response c.in-Ok.response)) (sym c.in-Ok.is) refl, c.put_response.ensures)

pub returns-in-Err : goal.returns-in-Err
returns-in-Err g c = (out_of_memory, subst (λ made. IsMade made out_of_memory) (sym c.in-Err.is) refl, c.put_no_memory.ensures)
