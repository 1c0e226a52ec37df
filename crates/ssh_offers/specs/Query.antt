-- The values of the queries about a login and a host's key, wherever their texts are in memory.
use Rattle.std.specs.Prelude.{ℕ, List, Option, option_copied}
use Rattle.jiff.specs.Types.{TimeZone}
use Rattle.jiff.specs.Words.{plain_zone}
use Rattle.ssh_offers.specs.declared.claim.EmptyPrincipals.{EmptyPrincipals}
use Rattle.ssh_offers.specs.declared.claim.HostQuery.{HostQuery}
use Rattle.ssh_offers.specs.declared.claim.LoginQuery.{LoginQuery}

pub record Login : Type 0 where
  -- the blob of a plain key or of a certificate, and that of the signature over the login bytes (RFC 4252 section 7)
  pub offered : List ℕ
  pub signature : List ℕ
  -- the name of the public key algorithm, the session identifier and the user's name, as the login bytes have them
  pub algorithm : List ℕ
  pub session : List ℕ
  pub user : List ℕ
  -- the client: its host name, if known, and the text of its address
  pub host : Option (List ℕ)
  pub address : List ℕ
  -- seconds since 1970-01-01 in UTC
  pub now : ℕ
  -- the time zone of expiry times that name none
  pub zone : TimeZone
  -- whether a certificate without principals is for all or for none
  pub empty_principals : EmptyPrincipals
  -- the fewest bits of the modulus of an RSA key
  pub rsa_minimum : ℕ

pub record HostCheck : Type 0 where
  -- the blob of a plain key or of a certificate, and that of the signature over the exchange hash (RFC 4253 section 8)
  pub offered : List ℕ
  pub signature : List ℕ
  pub exchange_hash : List ℕ
  -- the host as the client names it, and its port
  pub host : List ℕ
  pub port : ℕ
  -- as for a login
  pub now : ℕ
  pub empty_principals : EmptyPrincipals
  pub rsa_minimum : ℕ

abbrev pub login_of : LoginQuery → Login
login_of q = record {
  offered = q.offered.now;
  signature = q.signature.now;
  algorithm = q.algorithm.now;
  session = q.session.now;
  user = q.user.now;
  host = option_copied q.host;
  address = q.address.now;
  now = q.now;
  zone = plain_zone q.zone.now;
  empty_principals = q.empty_principals;
  rsa_minimum = q.rsa_minimum;
}

abbrev pub host_check_of : HostQuery → HostCheck
host_check_of q = record {
  offered = q.offered.now;
  signature = q.signature.now;
  exchange_hash = q.exchange_hash.now;
  host = q.host.now;
  port = q.port;
  now = q.now;
  empty_principals = q.empty_principals;
  rsa_minimum = q.rsa_minimum;
}
