-- When an entry of an authorized_keys file admits a login (sshd(8), PROTOCOL.certkeys), and why one does not.
use Rattle.std.specs.Prelude.{◌≡◌, ◌≤ℤ◌, ℕ, ℤ, pos, Any, Bool, true, false, not, List, [], ◌∷◌, Option, Some, None}
use Rattle.std.specs.Int.Signed.{le_z}
use Rattle.std.specs.List.{AllByRecursion, list_all, list_any}
use Rattle.std.specs.Str.{bytes_eq}
use Rattle.ssh_keys.specs.PublicKey.{PublicKey, key_blob}
use Rattle.ssh_certs.specs.declared.options.CertificateOption.TheVariants.{ForceCommand, SourceAddress}
use Rattle.ssh_certs.specs.Certificate.{Certificate}
use Rattle.ssh_certs.specs.CertificateOptions.{forced_by_certificate}
use Rattle.ssh_certs.specs.OptionFacts.{AreOnce, IsKnownOption, OfText}
use Rattle.ssh_entries.specs.AuthEntry.{AuthEntry}
use Rattle.ssh_options.specs.declared.option.Flag.TheVariants.{CertAuthority}
use Rattle.ssh_options.specs.declared.option.ValueName.TheVariants.{Command, ExpiryTime, From, Principals}
use Rattle.ssh_options.specs.Expiry.{IsMoment}
use Rattle.ssh_options.specs.Moment.{moment_of}
use Rattle.ssh_options.specs.Settings.{has_flag, setting, settings}
use Rattle.ssh_patterns.specs.declared.address.Address.{Address}
use Rattle.ssh_patterns.specs.declared.list.Permit.{Permit}
use Rattle.ssh_patterns.specs.declared.list.Permit.TheVariants.{Yes}
use Rattle.ssh_patterns.specs.Lists.{FitsAddress, FitsSource, IsBadCidr, IsBadSource, Permits, items_of, source_list}
use Rattle.ssh_rules.specs.declared.reason.Mismatch.{Mismatch}
use Rattle.ssh_rules.specs.declared.reason.Reason.TheVariants as reason
use Rattle.ssh_offers.specs.Query.{Login}
use Rattle.ssh_offers.specs.Offer.{Offer, OfCertificate, certified, is_certified, plain, subject}
use Rattle.ssh_offers.specs.LoginClaim.{LoginClaim}
use Rattle.ssh_rules.specs.CertificateRules.{certificate_source, first_unknown, has_its_form, has_repeats}
use Rattle.ssh_rules.specs.CertificateForce.{InForce, force_rows, user_certificate}
use Rattle.ssh_rules.specs.KeySizes.{AreLongEnough}
use Rattle.ssh_rules.specs.Mismatches.{first_mismatch, key_row, or_later, permit_row, role_row, size_row, unknown_row, when}

-- the line marks its key as a certificate authority
abbrev pub is_authority : AuthEntry → Bool
is_authority e = has_flag CertAuthority e.options

-- ======== as relations

-- A key has one blob, and a blob one key.
abbrev pub HoldsKey : AuthEntry → PublicKey → Type 0
HoldsKey e key = key_blob e.key ≡ key_blob key

-- the login's time is not later than the moment of an expiry time, and the text has a moment
abbrev pub IsUnexpired : Login → List ℕ → Type 0
IsUnexpired q text = (moment : ℤ) × IsMoment text q.zone moment × (pos q.now ≤ℤ moment)

-- a list of sources permits the client (sshd(8), from=), and no item of it is malformed
abbrev pub PermitsClient : Login → List ℕ → Type 0
PermitsClient q list = (¬ Any IsBadSource (items_of list)) × Permits (FitsSource (record { host = q.host; text = q.address })) list

-- the certificate is a user's and in force, for a principal of the line's list, or for the user where there is no list
abbrev pub IsUserInForce : AuthEntry → Login → Certificate → Type 0
IsUserInForce e q c = InForce user_certificate q.now q.empty_principals (setting Principals e.options) q.user c

-- a list of networks and addresses permits an address (PROTOCOL.certkeys, source-address), and no item of it is
-- malformed
abbrev pub PermitsAddress : Address → List ℕ → Type 0
PermitsAddress address list = (¬ Any IsBadCidr (items_of list)) × Permits (FitsAddress address) list

-- the critical options of a user's certificate are met
pub record CriticalMet (e : AuthEntry) (address : Address) (c : Certificate) : Type 0 where
  -- Each critical option is one that a login supports, with data of its form,
  pub known : AllByRecursion IsKnownOption c.critical
  -- and its name occurs once.
  pub once : AreOnce c.critical
  -- A list of sources permits the address,
  pub source : OfText SourceAddress c (PermitsAddress address)
  -- A forced command equals the line's, if the line forces one.
  pub command : OfText ForceCommand c (λ own. (line : List ℕ) → setting Command e.options ≡ Some line → line ≡ own)

-- An entry of an authorized_keys file admits a login. Whether a security key was touched and verified the user is a
-- further condition of a grant.
pub record AdmitsLogin (e : AuthEntry) (claim : LoginClaim) : Type 0 where
  -- It has the offered key, or that of the certificate's signer,
  pub key : HoldsKey e (subject claim.offer)
  -- and is marked as an authority exactly where a certificate is offered.
  pub role : is_authority e ≡ is_certified claim.offer
  -- It has not expired,
  pub unexpired : AllByRecursion (IsUnexpired claim.query) (settings ExpiryTime e.options)
  -- and its list of sources, if it has one, permits the client.
  pub source : (list : List ℕ) → setting From e.options ≡ Some list → PermitsClient claim.query list
  -- The certificate is in force,
  pub in_force : OfCertificate (IsUserInForce e claim.query) claim.offer
  -- and its critical options are met.
  pub critical : OfCertificate (CriticalMet e claim.address) claim.offer
  -- RSA keys are long enough.
  pub sizes : AreLongEnough claim.query.rsa_minimum claim.offer

-- ======== the first reason why an entry does not admit

-- A moment that is past. A text without a moment counts as past.
abbrev pub is_past : ℕ → Option ℤ → Bool
is_past now None = true
is_past now (Some moment) = not (le_z (pos now) moment)

abbrev pub is_past_time : Login → List ℕ → Bool
is_past_time q text = is_past q.now (moment_of text q.zone)

abbrev pub is_expired : Login → List (List ℕ) → Bool
is_expired q texts = list_any (is_past_time q) texts

abbrev pub source_by : Option (List ℕ) → Login → Permit
source_by None q = Yes
source_by (Some list) q = source_list list q.host q.address

-- whether the line's list of sources permits the client; without a list it does
abbrev pub line_source : AuthEntry → Login → Permit
line_source e q = source_by (setting From e.options) q

-- both force a command, and these differ
abbrev pub commands_differ : Option (List ℕ) → Option (List ℕ) → Bool
commands_differ None own = false
commands_differ (Some line) None = false
commands_differ (Some line) (Some own) = not (bytes_eq line own)

-- the reasons that the line itself gives
abbrev pub line_rows : AuthEntry → LoginClaim → List (Option Mismatch)
line_rows e claim =
    key_row (bytes_eq (key_blob e.key) (key_blob (subject claim.offer)))
    ∷ role_row (is_authority e) (is_certified claim.offer)
    ∷ when (is_expired claim.query (settings ExpiryTime e.options)) reason.Expired
    ∷ permit_row reason.SourceBad reason.SourceRefused (line_source e claim.query)
    ∷ []

-- the reasons why a user's certificate is not in force
abbrev pub user_force_rows : AuthEntry → Login → Certificate → List (Option Mismatch)
user_force_rows e q c = force_rows user_certificate q.now q.empty_principals (setting Principals e.options) q.user c

-- the reasons why a critical option of a certificate is not met
abbrev pub critical_rows : AuthEntry → Address → Certificate → List (Option Mismatch)
critical_rows e address c =
    unknown_row (first_unknown c.critical)
    ∷ when (has_repeats c.critical) reason.CriticalRepeated
    ∷ when (not (list_all has_its_form c.critical)) reason.CriticalData
    ∷ permit_row reason.CertSourceBad reason.CertSourceRefused (certificate_source c address)
    ∷ when (commands_differ (setting Command e.options) (forced_by_certificate c)) reason.CommandConflict
    ∷ []

abbrev pub certificate_mismatch : AuthEntry → LoginClaim → Certificate → Option Mismatch
certificate_mismatch e claim c =
    or_later (first_mismatch (user_force_rows e claim.query c)) (first_mismatch (critical_rows e claim.address c))

abbrev pub offer_mismatch : AuthEntry → LoginClaim → Offer → Option Mismatch
offer_mismatch e claim (plain key) = None
offer_mismatch e claim (certified c) = certificate_mismatch e claim c

-- the first reason why an entry does not admit a login; none where it admits
unfoldable pub login_mismatch : AuthEntry → LoginClaim → Option Mismatch
login_mismatch e claim = or_later (first_mismatch (line_rows e claim)) (or_later (offer_mismatch e claim claim.offer) (size_row claim.query.rsa_minimum claim.offer))
