-- The value of an offer that is read in place.
use Rattle.ssh_keys.specs.KeyOf.{key_of}
use Rattle.ssh_certs.specs.CertificateOf.{certificate_of}
use Rattle.ssh_offers.specs.declared.offer.Offer as view
use Rattle.ssh_offers.specs.declared.offer.Offer.TheVariants.{Plain, Certified}
use Rattle.ssh_offers.specs.Offer.{Offer, plain, certified}

abbrev pub offer_of : view.Offer → Offer
offer_of (Plain key) = plain (key_of key)
offer_of (Certified certificate) = certified (certificate_of certificate)
