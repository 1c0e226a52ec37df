-- An entry admits a login exactly where no row of the table holds.
use Rattle.ssh_rules.proofs.Imports.{◌≡◌, ◌∙◌, ℕ, List, Option, Some, None, sym, refl, ℤ, pos, ◌≤ℤ◌, AllByRecursion, bytes_eq-Decides, TimeZone, key_blob, Certificate, AuthEntry, ExpiryTime, From, Principals, IsMoment, moment_of, moment-is, moment-only, setting, settings, Yes, Login, Offer, OfCertificate, certified, is_certified, plain, subject, LoginClaim, user_certificate, first_mismatch, or_later, size_row, AdmitsLogin, CriticalMet, IsUnexpired, IsUserInForce, PermitsClient, certificate_mismatch, critical_rows, is_authority, is_expired, is_past, line_rows, offer_mismatch, source_by, user_force_rows}
use Rattle.std.specs.Prelude.{false}
use Rattle.ssh_rules.specs.declared.reason.Reason.TheVariants as reason
use Rattle.ssh_rules.specs.Admission.{login_mismatch}
use Rattle.ssh_rules.proofs.Tests.{none_of, of_none, both_none, none_both, key_held, held_key, same_role, role_same, off, when_off, permitted, yes_row, not_off, off_not, none-fails, le_z-decides}
use Rattle.ssh_rules.proofs.CriticalLemmas.{met, met-none}
use Rattle.ssh_rules.proofs.ForceLemmas.{in_force, force_none}
use Rattle.ssh_rules.proofs.SizeLemmas.{all_long, none_short}
use Rattle.ssh_rules.proofs.SourceLemmas.{client-permitted, permits-client}

-- ---- expiry times

some-moment : (now : ℕ) (text : List ℕ) (zone : TimeZone) (m : Option ℤ) → moment_of text zone ≡ m
    → (is_past now m ≡ false → (t : ℤ) × IsMoment text zone t × (pos now ≤ℤ t)) × ((t : ℤ) × IsMoment text zone t × (pos now ≤ℤ t) → is_past now m ≡ false)
some-moment now text zone None e = (
  λ h. cc,
  λ h. let both : None ≡ Some h.0 = sym e ∙ moment-only text zone h.0 h.1 in cc,
)
some-moment now text zone (Some t) e = (
  λ h. (t, moment-is text zone t e, (le_z-decides (pos now) t).0 (not_off _ h)),
  λ h.
      let both : Some t ≡ Some h.0 = sym e ∙ moment-only text zone h.0 h.1 in
      let same : t ≡ h.0 = cc in
      rw same (off_not _ ((le_z-decides (pos now) h.0).1 h.2)),
)

unexpired : (q : Login) (texts : List (List ℕ)) → (is_expired q texts ≡ false → AllByRecursion (IsUnexpired q) texts)
    × (AllByRecursion (IsUnexpired q) texts → is_expired q texts ≡ false)
unexpired q texts =
    none-fails (λ text. is_past q.now (moment_of text q.zone)) (IsUnexpired q) (λ text. some-moment q.now text q.zone (moment_of text q.zone) refl) texts

-- ---- the client

source-of : (o : Option (List ℕ)) (q : Login) → source_by o q ≡ Yes → (list : List ℕ) → o ≡ Some list → PermitsClient q list
source-of None q h list e = cc
source-of (Some found) q h list e =
    let same : found ≡ list = cc in
    rw same at (client-permitted q found h)

pub of-source : (o : Option (List ℕ)) (q : Login) → ((list : List ℕ) → o ≡ Some list → PermitsClient q list) → source_by o q ≡ Yes
of-source None q h = refl
of-source (Some list) q h = permits-client q list (h list refl)

-- ---- a certificate

certificate-none : (e : AuthEntry) (claim : LoginClaim) (c : Certificate) → certificate_mismatch e claim c ≡ None
    → IsUserInForce e claim.query c × CriticalMet e claim.address c
certificate-none e claim c h =
    let both = both_none (first_mismatch (user_force_rows e claim.query c)) (first_mismatch (critical_rows e claim.address c)) h in
    (in_force user_certificate claim.query.now claim.query.empty_principals (setting Principals e.options) claim.query.user c (none_of (user_force_rows e claim.query c) both.0), met e claim.address c (none_of (critical_rows e claim.address c) both.1))

offer-none : (e : AuthEntry) (claim : LoginClaim) (o : Offer) → offer_mismatch e claim o ≡ None
    → OfCertificate (IsUserInForce e claim.query) o × OfCertificate (CriticalMet e claim.address) o
offer-none e claim (plain key) h = (tt, tt)
offer-none e claim (certified c) h = certificate-none e claim c h

none-offer : (e : AuthEntry) (claim : LoginClaim) (o : Offer) → OfCertificate (IsUserInForce e claim.query) o → OfCertificate (CriticalMet e claim.address) o
    → offer_mismatch e claim o ≡ None
none-offer e claim (plain key) f m = refl
none-offer e claim (certified c) f m =
    none_both (first_mismatch (user_force_rows e claim.query c)) (first_mismatch (critical_rows e claim.address c)) (of_none (user_force_rows e claim.query c) (force_none user_certificate claim.query.now claim.query.empty_principals (setting Principals e.options) claim.query.user c f)) (of_none (critical_rows e claim.address c) (met-none e claim.address c m))

-- ---- a login

pub admits_where_none : (e : AuthEntry) (claim : LoginClaim) → login_mismatch e claim ≡ None → AdmitsLogin e claim
unfolding login_mismatch
admits_where_none e claim h =
    let both = both_none (first_mismatch (line_rows e claim)) (or_later (offer_mismatch e claim claim.offer) (size_row claim.query.rsa_minimum claim.offer)) h in
    let n = none_of (line_rows e claim) both.0 in
    let later = both_none (offer_mismatch e claim claim.offer) (size_row claim.query.rsa_minimum claim.offer) both.1 in
    let offered = offer-none e claim claim.offer later.0 in
    record {
      key = (bytes_eq-Decides (key_blob e.key) (key_blob (subject claim.offer))).0 (key_held _ n.0);
      role = same_role (is_authority e) (is_certified claim.offer) n.1.0;
      unexpired = (unexpired claim.query (settings ExpiryTime e.options)).0 (off _ reason.Expired n.1.1.0);
      source = source-of (setting From e.options) claim.query (permitted reason.SourceBad reason.SourceRefused _ n.1.1.1.0);
      in_force = offered.0;
      critical = offered.1;
      sizes = all_long claim.query.rsa_minimum claim.offer (off _ reason.RsaTooSmall later.1);
    }

pub none_where_admits : (e : AuthEntry) (claim : LoginClaim) → AdmitsLogin e claim → login_mismatch e claim ≡ None
unfolding login_mismatch
none_where_admits e claim a =
    none_both (first_mismatch (line_rows e claim)) (or_later (offer_mismatch e claim claim.offer) (size_row claim.query.rsa_minimum claim.offer))
    (of_none (line_rows e claim) (
      held_key _ ((bytes_eq-Decides (key_blob e.key) (key_blob (subject claim.offer))).1 a.key),
      (
        role_same (is_authority e) (is_certified claim.offer) a.role,
        (
          when_off _ reason.Expired ((unexpired claim.query (settings ExpiryTime e.options)).1 a.unexpired),
          (
            yes_row reason.SourceBad reason.SourceRefused _ (of-source (setting From e.options) claim.query a.source),
            tt,
          ),
        ),
      ),
    ))
    (none_both (offer_mismatch e claim claim.offer) (size_row claim.query.rsa_minimum claim.offer) (none-offer e claim claim.offer a.in_force a.critical) (when_off _ reason.RsaTooSmall (none_short claim.query.rsa_minimum claim.offer a.sizes)))
