-- The values of claims that are read in place.
use Rattle.ssh_keys.specs.Signature.{signature_of}
use Rattle.ssh_offers.specs.declared.claim.HostClaimView.{HostClaimView}
use Rattle.ssh_offers.specs.declared.claim.LoginClaimView.{LoginClaimView}
use Rattle.ssh_offers.specs.Query.{host_check_of, login_of}
use Rattle.ssh_offers.specs.HostClaim.{HostClaim}
use Rattle.ssh_offers.specs.LoginClaim.{LoginClaim}
use Rattle.ssh_offers.specs.OfferView.{offer_of}

abbrev pub claim_of : LoginClaimView → LoginClaim
claim_of c = record { query = login_of c.query; offer = offer_of c.offer; signature = signature_of c.signature; address = c.address }

abbrev pub host_claim_of : HostClaimView → HostClaim
host_claim_of c = record { query = host_check_of c.query; offer = offer_of c.offer }
