-- The claim of a login: an offer, a signature and an address that were read and fit together.
use Rattle.std.specs.Prelude.{Option, Some, None, Result, Ok, Err}
use Rattle.ssh_wire.specs.Reading.{◌>>=◌}
use Rattle.ssh_keys.specs.PublicKey.{kind_of}
use Rattle.ssh_keys.specs.Signature.{Signature as SignatureValue, signature_in}
use Rattle.ssh_patterns.specs.declared.address.Address.{Address as AddressValue}
use Rattle.ssh_patterns.specs.AddressReading.{address_of}
use Rattle.ssh_offers.specs.declared.claim.AuditError.{AuditError}
use Rattle.ssh_offers.specs.declared.claim.AuditError.TheVariants.{Offer as BadOffer, Signature, Address}
use Rattle.ssh_offers.specs.Query.{Login}
use Rattle.ssh_offers.specs.Offer.{Offer, is_certified, offer_in, plain_key}
use Rattle.ssh_offers.specs.Refusal.{or_refuse}
use Rattle.ssh_offers.specs.Algorithms.{pairing_test, signer_test, wanted_algorithm}

pub record LoginClaim : Type 0 where
  pub query : Login
  pub offer : Offer
  pub signature : SignatureValue
  pub address : AddressValue

-- the address that the text spells (RFC 4291 section 2.2)
abbrev pub address_test : Option AddressValue → Result AddressValue AuditError
address_test (Some address) = Ok address
address_test None = Err Address

-- the claim of a login, or the first refusal of its offer, in this order
unfoldable pub login_claim : Login → Result LoginClaim AuditError
login_claim q = do
  offer ← or_refuse BadOffer (offer_in q.offered)
  signature ← or_refuse Signature (signature_in q.signature)
  wanted ← wanted_algorithm (kind_of (plain_key offer)) (is_certified offer) q.algorithm
  _ ← pairing_test (kind_of (plain_key offer)) wanted signature.algorithm
  _ ← signer_test offer
  address ← address_test (address_of q.address)
  Ok (record { query = q; offer = offer; signature = signature; address = address })
