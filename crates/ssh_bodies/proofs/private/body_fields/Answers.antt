use Rattle.ssh_bodies.proofs.Imports.{subst, start, Gives, BodyError, PrivateBody, private_body}
use Rattle.std.specs.Prelude.{Result}
use Rattle.ssh_bodies.proofs.PartLaws.{body_parts_are}
use Rattle.ssh_bodies.proofs.private.body_fields.Goals as goal

pub returns : goal.returns
returns c = subst (λ (read : Result PrivateBody BodyError). Gives private_body c.body_parts.result read) (body_parts_are (start c.args.body.now)) c.body_parts.ensures
