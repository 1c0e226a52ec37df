-- The private key body that a view represents.
use Rattle.ssh_bodies.specs.declared.private_view.PrivateView as declared
use Rattle.ssh_bodies.specs.PrivateFrom.{private_key}
use Rattle.ssh_bodies.specs.PrivateKey.{PrivateBody}

abbrev pub private_body : declared.PrivateView → PrivateBody
private_body v = record { check = v.check; key = private_key v.fields; comment = v.comment.now }
