use Rattle.ssh_bodies.proofs.Imports.{subst, start, Gives, BodyError, Sshsig, sshsig_of}
use Rattle.std.specs.Prelude.{Result}
use Rattle.ssh_bodies.proofs.PartLaws.{sshsig_parts_are}
use Rattle.ssh_bodies.proofs.sshsig.sshsig_fields.Goals as goal

pub returns : goal.returns
returns c = subst (λ (read : Result Sshsig BodyError). Gives sshsig_of c.sshsig_parts.result read) (sshsig_parts_are (start c.args.body.now)) c.sshsig_parts.ensures
