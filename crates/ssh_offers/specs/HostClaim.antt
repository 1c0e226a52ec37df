-- The claim of a host's key: an offer and a signature that were read and fit together.
use Rattle.std.specs.Prelude.{Result, Ok, Err}
use Rattle.ssh_wire.specs.Reading.{◌>>=◌}
use Rattle.ssh_keys.specs.declared.signature.Fit.{Fit}
use Rattle.ssh_keys.specs.declared.signature.Fit.TheVariants.{Yes, Weak, No}
use Rattle.ssh_keys.specs.PublicKey.{kind_of}
use Rattle.ssh_keys.specs.Signature.{fit_of, signature_in}
use Rattle.ssh_offers.specs.declared.claim.AuditError.{AuditError}
use Rattle.ssh_offers.specs.declared.claim.AuditError.TheVariants.{Offer as BadOffer, Signature, WeakSignature, WrongAlgorithm}
use Rattle.ssh_offers.specs.Query.{HostCheck}
use Rattle.ssh_offers.specs.Offer.{Offer, offer_in, plain_key}
use Rattle.ssh_offers.specs.Algorithms.{signer_test}
use Rattle.ssh_offers.specs.Refusal.{or_refuse}

pub record HostClaim : Type 0 where
  pub query : HostCheck
  pub offer : Offer

-- whether a signature's algorithm fits the key that made it: RSA with SHA-1 is weak (RFC 8332)
abbrev pub fitting_test : Fit → Result (Unit {0}) AuditError
fitting_test Yes = Ok tt
fitting_test Weak = Err WeakSignature
fitting_test No = Err WrongAlgorithm

-- the claim of a host's key, or the first refusal of its offer, in this order
unfoldable pub host_claim : HostCheck → Result HostClaim AuditError
host_claim q = do
  offer ← or_refuse BadOffer (offer_in q.offered)
  signature ← or_refuse Signature (signature_in q.signature)
  _ ← fitting_test (fit_of (kind_of (plain_key offer)) signature.algorithm)
  _ ← signer_test offer
  Ok (record { query = q; offer = offer })
