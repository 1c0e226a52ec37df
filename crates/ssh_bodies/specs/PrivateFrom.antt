-- The private key that fields in memory represent.
use Rattle.ssh_wire.specs.Mpint.{number_of}
use Rattle.ssh_bodies.specs.declared.private_fields.PrivateFields.{PrivateFields}
use Rattle.ssh_bodies.specs.declared.private_fields.PrivateFields.TheVariants.{Rsa, P256, P384, P521, Ed25519, SkP256, SkEd25519}
use Rattle.ssh_bodies.specs.PrivateKey.{PrivateKey, private_rsa, private_p256, private_p384, private_p521, private_ed25519, private_sk_p256, private_sk_ed25519}

abbrev pub private_key : PrivateFields → PrivateKey
private_key (Rsa n e d c p q) = private_rsa (number_of n) (number_of e) (number_of d) (number_of c) (number_of p) (number_of q)
private_key (P256 point d) = private_p256 point.now (number_of d)
private_key (P384 point d) = private_p384 point.now (number_of d)
private_key (P521 point d) = private_p521 point.now (number_of d)
private_key (Ed25519 a secret) = private_ed25519 a.now secret.now
private_key (SkP256 point application flags handle reserved) = private_sk_p256 point.now application.now flags handle.now reserved.now
private_key (SkEd25519 a application flags handle reserved) = private_sk_ed25519 a.now application.now flags handle.now reserved.now
