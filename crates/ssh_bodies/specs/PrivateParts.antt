-- The values of the parts of a private key in memory.
use Rattle.std.specs.Prelude.{ℕ, List}
use Rattle.ssh_wire.specs.Mpint.{number_of}
use Rattle.ssh_keys.specs.declared.kind.Curve.{Curve}
use Rattle.ssh_keys.specs.declared.kind.Curve.TheVariants.{Nistp256, Nistp384, Nistp521}
use Rattle.ssh_keys.specs.PublicKey.{PublicKey, p256, p384, p521}
use Rattle.ssh_bodies.specs.declared.private_section.RsaPart.{RsaPart}
use Rattle.ssh_bodies.specs.declared.private_section.CurvePart.{CurvePart}
use Rattle.ssh_bodies.specs.declared.private_section.HandlePart.{HandlePart}
use Rattle.ssh_bodies.specs.PrivateReading.{RsaNumbers, OnCurve, KeyHandle}

abbrev pub rsa_numbers : RsaPart → RsaNumbers
rsa_numbers k = record {
  modulus = number_of k.modulus;
  exponent = number_of k.exponent;
  private_exponent = number_of k.private_exponent;
  coefficient = number_of k.coefficient;
  prime1 = number_of k.prime1;
  prime2 = number_of k.prime2;
}

abbrev pub on_curve : CurvePart → OnCurve
on_curve k = record { curve = k.curve.now; point = k.point.now; scalar = number_of k.scalar }

abbrev pub handle_of : HandlePart → KeyHandle
handle_of k = record { application = k.application.now; flags = k.flags; key_handle = k.key_handle.now; reserved = k.reserved.now }

-- the public key of a point on a curve
abbrev pub curve_key : Curve → List ℕ → PublicKey
curve_key Nistp256 point = p256 point
curve_key Nistp384 point = p384 point
curve_key Nistp521 point = p521 point
