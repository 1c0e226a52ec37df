-- What a caller in C asks, as the definitions of logins and hosts' keys have it (this project's rule).
use Rattle.std.specs.Prelude.{ℕ, List, Bool, Option, Some, None, if◌then◌else◌}
use Rattle.jiff.specs.Types.{UTC}
use Rattle.ssh_offers.specs.Query.{HostCheck, Login}
use Rattle.ssh_offers.specs.declared.claim.EmptyPrincipals.{EmptyPrincipals}
use Rattle.ssh_offers.specs.declared.claim.EmptyPrincipals.TheVariants.{Any, Never}
use Rattle.ssh_offers.specs.declared.claim.Signed.{Signed}
use Rattle.ssh_decisions_c.specs.declared.asked.HostAsked.{HostAsked}
use Rattle.ssh_decisions_c.specs.declared.asked.LoginAsked.{LoginAsked}
use Rattle.ssh_decisions_c.specs.declared.asked.SignedBytes.{SignedBytes}

abbrev pub empty_principals_by : Bool → EmptyPrincipals
empty_principals_by is_never = if is_never then Never else Any

abbrev pub host_name_by : Bool → List ℕ → Option (List ℕ)
host_name_by is_known name = if is_known then Some name else None

-- the login; expiry times that name no zone are in UTC
abbrev pub login_asked : LoginAsked → Login
login_asked q = record {
  offered = q.offered.now;
  signature = q.signature.now;
  algorithm = q.algorithm.now;
  session = q.session.now;
  user = q.user.now;
  host = host_name_by q.has_host q.host.now;
  address = q.address.now;
  now = q.now;
  zone = UTC;
  empty_principals = empty_principals_by q.empty_principals_never;
  rsa_minimum = q.rsa_minimum;
}

abbrev pub host_asked : HostAsked → HostCheck
host_asked q = record {
  offered = q.offered.now;
  signature = q.signature.now;
  exchange_hash = q.exchange_hash.now;
  host = q.host.now;
  port = q.port;
  now = q.now;
  empty_principals = empty_principals_by q.empty_principals_never;
  rsa_minimum = q.rsa_minimum;
}

-- the signature, with its key and what it is over
abbrev pub signed_of : SignedBytes → Signed
signed_of s = record { key = s.key.now; message = s.message.now; signature = s.signature.now }
