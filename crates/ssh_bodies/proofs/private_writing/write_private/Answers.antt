use Rattle.ssh_bodies.proofs.Imports.{private_body}
use Rattle.ssh_bodies.proofs.PrivateLaws.{least_is_body, padded_is_more}
use Rattle.ssh_bodies.proofs.private_writing.write_private.Goals as goal

pub returns-then-is_err-clause-is_body : goal.returns-then-is_err-clause-is_body
returns-then-is_err-clause-is_body c = least_is_body (private_body c.args.view.now) c.requires

pub returns-then-is_err-clause-least : goal.returns-then-is_err-clause-least
returns-then-is_err-clause-least c = λ count padded. padded_is_more (private_body c.args.view.now) count padded

pub returns-else-is_err-clause-is_body : goal.returns-else-is_err-clause-is_body
returns-else-is_err-clause-is_body c = least_is_body (private_body c.args.view.now) c.requires

pub returns-else-is_err-clause-least : goal.returns-else-is_err-clause-least
returns-else-is_err-clause-least c = λ count padded. padded_is_more (private_body c.args.view.now) count padded
