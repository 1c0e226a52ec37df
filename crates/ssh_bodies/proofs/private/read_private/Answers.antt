use Rattle.ssh_bodies.proofs.Imports.{arith}
use Rattle.ssh_bodies.proofs.PrivateLaws.{private_takes, private_only, private_refused}
use Rattle.ssh_bodies.proofs.PrivateFaults.{private_fault}
use Rattle.ssh_bodies.proofs.private.read_private.Goals as goal

pub returns-in-Ok-clause-found : goal.returns-in-Ok-clause-found
returns-in-Ok-clause-found c = private_takes c.args.bytes.now _ (λ i. omega (arith, c.type_inv.bytes i)) c.in-Ok.ensures

pub returns-in-Ok-clause-only : goal.returns-in-Ok-clause-only
returns-in-Ok-clause-only c = λ body blob. private_only c.args.bytes.now _ body c.in-Ok.ensures blob

pub returns-in-Err-clause-only : goal.returns-in-Err-clause-only
returns-in-Err-clause-only c = λ body blob. private_refused c.args.bytes.now _ body c.in-Err.ensures blob

pub returns-in-Err-clause-first : goal.returns-in-Err-clause-first
returns-in-Err-clause-first c = private_fault c.args.bytes.now c.in-Err.e (λ i. omega (arith, c.type_inv.bytes i)) c.in-Err.ensures
