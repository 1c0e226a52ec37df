-- The stand-in is a signature that has a blob.
use Rattle.ssh_print.proofs.Imports.{refl, arith, KeyKind, Rsa, P256, P384, P521, Ed25519, SkP256, SkEd25519, IsSignature, stand_in_signature}
use Rattle.ssh_keys.specs.Signature.{signature_blob}

pub stand_in_signs : (kind : KeyKind) → IsSignature (stand_in_signature kind)
unfolding signature_blob
stand_in_signs Rsa = record { sk = refl; ranges = refl; length = omega arith }
stand_in_signs P256 = record { sk = refl; ranges = refl; length = omega arith }
stand_in_signs P384 = record { sk = refl; ranges = refl; length = omega arith }
stand_in_signs P521 = record { sk = refl; ranges = refl; length = omega arith }
stand_in_signs Ed25519 = record { sk = refl; ranges = refl; length = omega arith }
stand_in_signs SkP256 = record { sk = refl; ranges = refl; length = omega arith }
stand_in_signs SkEd25519 = record { sk = refl; ranges = refl; length = omega arith }
