-- What is checked of a login's certificate once, because no line changes it.
use Rattle.std.specs.Prelude.{◌≡◌, ℕ, List, [], Option, Some, None}
use Rattle.ssh_patterns.specs.declared.address.Address.{Address}
use Rattle.ssh_certs.specs.Certificate.{Certificate}
use Rattle.ssh_offers.specs.LoginClaim.{LoginClaim}
use Rattle.ssh_offers.specs.Offer.{Offer, OfCertificate, certified, plain}
use Rattle.ssh_rules.specs.CertificateRules.{first_unknown}

-- a certificate, and the address and the user that a login checks it for
pub record Judged : Type 0 where
  pub certificate : Certificate
  pub address : Address
  pub user : List ℕ

abbrev pub judged_by : LoginClaim → Offer → Option Judged
judged_by claim (plain key) = None
judged_by claim (certified c) = Some (record { certificate = c; address = claim.address; user = claim.query.user })

-- the certificate that a login offers, if it offers one
abbrev pub judged_of : LoginClaim → Option Judged
judged_of claim = judged_by claim claim.offer

-- a certificate whose check allocates nothing: all its critical options are supported, and it names no principal
pub record IsPlainlyJudged (c : Certificate) : Type 0 where
  pub known : first_unknown c.critical ≡ None
  pub nameless : c.principals ≡ []

-- a plain key, or such a certificate
abbrev pub IsPlainOffer : Offer → Type 0
IsPlainOffer offer = OfCertificate IsPlainlyJudged offer
