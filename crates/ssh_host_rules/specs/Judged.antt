-- What is derived from a host's offer once, because no line changes it.
use Rattle.std.specs.Prelude.{ℕ, Bool, false, List, Option, None}
use Rattle.ssh_offers.specs.Offer.{Offer, certified, plain}
use Rattle.ssh_offers.specs.Query.{HostCheck}
use Rattle.ssh_rules.specs.CertificateRules.{serves}
use Rattle.ssh_host_rules.specs.HostAdmission.{first_name, principal_of}

-- the name of the first critical option of the certificate, if one is offered that has any
abbrev pub host_unknown_name : Offer → Option (List ℕ)
host_unknown_name (plain key) = None
host_unknown_name (certified c) = first_name c.critical

-- a certificate is offered that is for the host
abbrev pub host_served : HostCheck → Offer → Bool
host_served q (plain key) = false
host_served q (certified c) = serves None (principal_of q) c
