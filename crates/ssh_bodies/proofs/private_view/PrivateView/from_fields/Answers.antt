use Rattle.ssh_bodies.proofs.Imports.{private_key, private_with}
use Rattle.ssh_bodies.proofs.Making.{private_from_takes, private_from_only, private_from_refused}
use Rattle.ssh_bodies.proofs.private_view.PrivateView.from_fields.Goals as goal

pub returns-in-Ok-clause-found : goal.returns-in-Ok-clause-found
returns-in-Ok-clause-found c = private_from_takes (private_with c.args.check (private_key c.args.fields) c.args.comment.now) _ c.ranges.check.fits c.in-Ok.ensures

pub returns-in-Ok-clause-only : goal.returns-in-Ok-clause-only
returns-in-Ok-clause-only c = λ is. private_from_only (private_with c.args.check (private_key c.args.fields) c.args.comment.now) _ c.in-Ok.ensures is

pub returns-in-Err-clause-only : goal.returns-in-Err-clause-only
returns-in-Err-clause-only c = λ is. private_from_refused (private_with c.args.check (private_key c.args.fields) c.args.comment.now) c.in-Err.e c.in-Err.ensures is
