-- When an entry of a known_hosts file admits a host's key (sshd(8), SSH_KNOWN_HOSTS FILE FORMAT; PROTOCOL.certkeys), and
-- why one does not.
use Rattle.std.specs.Prelude.{◌≡◌, ℕ, Bool, true, false, List, [], ◌∷◌, Option, Some, None}
use Rattle.std.specs.Str.{bytes_eq, str_to_ascii_lowercase}
use Rattle.ssh_keys.specs.PublicKey.{key_blob}
use Rattle.ssh_certs.specs.Certificate.{Certificate, CertOption}
use Rattle.ssh_entries.specs.Names.{NamesHost, lookup_name, names_host}
use Rattle.ssh_entries.specs.KnownEntry.{KnownEntry}
use Rattle.ssh_entries.specs.declared.known_view.Marker.{Marker}
use Rattle.ssh_entries.specs.declared.known_view.Marker.TheVariants.{CertAuthority, Unmarked}
use Rattle.ssh_offers.specs.Query.{HostCheck}
use Rattle.ssh_offers.specs.Offer.{Offer, OfCertificate, certified, is_certified, plain, subject}
use Rattle.ssh_offers.specs.HostClaim.{HostClaim}
use Rattle.ssh_rules.specs.declared.reason.Mismatch.{Mismatch}
use Rattle.ssh_rules.specs.declared.reason.Mismatch.TheVariants.{OtherHost}
use Rattle.ssh_rules.specs.CertificateForce.{InForce, force_rows}
use Rattle.ssh_rules.specs.KeySizes.{AreLongEnough}
use Rattle.ssh_rules.specs.Mismatches.{first_mismatch, key_row, or_later, role_row, size_row, unknown_row}

-- the kind number of a host's certificate
abbrev pub host_certificate : ℕ
host_certificate = 2

-- the name that the host is looked up by, with its port
abbrev pub looked_up : HostCheck → List ℕ
looked_up q = lookup_name q.host q.port

-- the name that the principals of a host's certificate are compared with: in ASCII lower case, without the port
abbrev pub principal_of : HostCheck → List ℕ
principal_of q = str_to_ascii_lowercase q.host

-- the line marks its key as a certificate authority
abbrev pub marks_authority : Marker → Bool
marks_authority Unmarked = false
marks_authority CertAuthority = true

-- ======== as relations

-- the certificate is a host's and in force, for this host or for all
abbrev pub IsHostInForce : HostCheck → Certificate → Type 0
IsHostInForce q c = InForce host_certificate q.now q.empty_principals None (principal_of q) c

-- It has no critical option: none is defined for certificates of hosts, and a certificate with a critical option that
-- is not supported must be refused (PROTOCOL.certkeys).
abbrev pub InsistsOnNothing : Certificate → Type 0
InsistsOnNothing c = c.critical ≡ []

-- an entry of a known_hosts file admits a host's key
pub record AdmitsHost (e : KnownEntry) (claim : HostClaim) : Type 0 where
  -- It has the offered key, or that of the certificate's signer,
  pub key : key_blob e.key ≡ key_blob (subject claim.offer)
  -- and is marked as an authority exactly where a certificate is offered.
  pub role : marks_authority e.marker ≡ is_certified claim.offer
  -- Its names match the host.
  pub names : NamesHost e.names (looked_up claim.query)
  -- The certificate is in force,
  pub in_force : OfCertificate (IsHostInForce claim.query) claim.offer
  -- and has no critical option.
  pub critical : OfCertificate InsistsOnNothing claim.offer
  -- RSA keys are long enough.
  pub sizes : AreLongEnough claim.query.rsa_minimum claim.offer

-- ======== the first reason why an entry does not admit

abbrev pub host_row : Bool → Option Mismatch
host_row true = None
host_row false = Some OtherHost

-- the reasons that the line itself gives
abbrev pub host_line_rows : KnownEntry → HostClaim → List (Option Mismatch)
host_line_rows e claim =
    key_row (bytes_eq (key_blob e.key) (key_blob (subject claim.offer)))
    ∷ role_row (marks_authority e.marker) (is_certified claim.offer)
    ∷ host_row (names_host e.names (looked_up claim.query))
    ∷ []

-- the reasons why a host's certificate is not in force
abbrev pub host_force_rows : HostCheck → Certificate → List (Option Mismatch)
host_force_rows q c = force_rows host_certificate q.now q.empty_principals None (principal_of q) c

-- the name of the first option
abbrev pub first_name : List CertOption → Option (List ℕ)
first_name [] = None
first_name (o ∷ options) = Some o.name

abbrev pub host_certificate_mismatch : HostCheck → Certificate → Option Mismatch
host_certificate_mismatch q c = or_later (first_mismatch (host_force_rows q c)) (unknown_row (first_name c.critical))

abbrev pub host_offer_mismatch : HostCheck → Offer → Option Mismatch
host_offer_mismatch q (plain key) = None
host_offer_mismatch q (certified c) = host_certificate_mismatch q c

-- the first reason why an entry does not admit a host's key; none where it admits
unfoldable pub host_mismatch : KnownEntry → HostClaim → Option Mismatch
host_mismatch e claim = or_later (first_mismatch (host_line_rows e claim)) (or_later (host_offer_mismatch claim.query claim.offer) (size_row claim.query.rsa_minimum claim.offer))
