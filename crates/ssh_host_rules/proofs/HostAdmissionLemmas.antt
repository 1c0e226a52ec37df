-- An entry admits a host's key exactly where no row of the table holds.
use Rattle.ssh_host_rules.proofs.Imports.{◌≡◌, ℕ, Bool, true, false, List, [], ◌∷◌, None, refl, sym, Decides, bytes_eq-Decides, key_blob, CertOption, MatchesInLowerCase, is_match_in_lower_case, lower-tells, permits-tells, Names, NamesHost, Patterns, Hashed, name_hash, names_host, KnownEntry, HostCheck, Offer, OfCertificate, certified, is_certified, plain, subject, HostClaim, first_mismatch, or_later, size_row, unknown_row, none_of, of_none, both_none, none_both, key_held, held_key, same_role, role_same, off, when_off, in_force, force_none, all_long, none_short, AdmitsHost, InsistsOnNothing, IsHostInForce, first_name, host_certificate, host_force_rows, host_line_rows, host_offer_mismatch, host_row, looked_up, marks_authority, principal_of}
use Rattle.ssh_rules.specs.declared.reason.Reason.TheVariants as reason
use Rattle.ssh_host_rules.specs.HostAdmission.{host_mismatch}

-- ---- names

names-decides : (names : Names) (name : List ℕ) → Decides (names_host names name) (NamesHost names name)
names-decides (Patterns list) name = permits-tells (is_match_in_lower_case name) (MatchesInLowerCase name) (lower-tells name) list
names-decides (Hashed salt hash) name =
    let same = bytes_eq-Decides (name_hash salt name) hash in
    (λ h. sym (same.0 h), λ h. same.1 (sym h))

named : (b : Bool) → host_row b ≡ None → b ≡ true
named true h = refl
named false h = cc

is-named : (b : Bool) → b ≡ true → host_row b ≡ None
is-named true h = refl
is-named false h = cc

-- ---- a certificate

nothing : (options : List CertOption) → unknown_row (first_name options) ≡ None → options ≡ []
nothing [] h = refl
nothing (o ∷ options) h = cc

no-name : (options : List CertOption) → options ≡ [] → unknown_row (first_name options) ≡ None
no-name [] h = refl
no-name (o ∷ options) h = cc

offer-none : (q : HostCheck) (o : Offer) → host_offer_mismatch q o ≡ None
    → OfCertificate (IsHostInForce q) o × OfCertificate InsistsOnNothing o
offer-none q (plain key) h = (tt, tt)
offer-none q (certified c) h =
    let both = both_none (first_mismatch (host_force_rows q c)) (unknown_row (first_name c.critical)) h in
    (in_force host_certificate q.now q.empty_principals None (principal_of q) c (none_of (host_force_rows q c) both.0), nothing c.critical both.1)

none-offer : (q : HostCheck) (o : Offer) → OfCertificate (IsHostInForce q) o → OfCertificate InsistsOnNothing o → host_offer_mismatch q o ≡ None
none-offer q (plain key) f m = refl
none-offer q (certified c) f m =
    none_both (first_mismatch (host_force_rows q c)) (unknown_row (first_name c.critical))
    (of_none (host_force_rows q c) (force_none host_certificate q.now q.empty_principals None (principal_of q) c f)) (no-name c.critical m)

-- ---- a host's key

pub host_where_none : (e : KnownEntry) (claim : HostClaim) → host_mismatch e claim ≡ None → AdmitsHost e claim
unfolding host_mismatch
host_where_none e claim h =
    let both = both_none (first_mismatch (host_line_rows e claim)) (or_later (host_offer_mismatch claim.query claim.offer) (size_row claim.query.rsa_minimum claim.offer)) h in
    let n = none_of (host_line_rows e claim) both.0 in
    let later = both_none (host_offer_mismatch claim.query claim.offer) (size_row claim.query.rsa_minimum claim.offer) both.1 in
    let offered = offer-none claim.query claim.offer later.0 in
    record {
      key = (bytes_eq-Decides (key_blob e.key) (key_blob (subject claim.offer))).0 (key_held _ n.0);
      role = same_role (marks_authority e.marker) (is_certified claim.offer) n.1.0;
      names = (names-decides e.names (looked_up claim.query)).0 (named _ n.1.1.0);
      in_force = offered.0;
      critical = offered.1;
      sizes = all_long claim.query.rsa_minimum claim.offer (off _ reason.RsaTooSmall later.1);
    }

pub none_where_host : (e : KnownEntry) (claim : HostClaim) → AdmitsHost e claim → host_mismatch e claim ≡ None
unfolding host_mismatch
none_where_host e claim a =
    none_both (first_mismatch (host_line_rows e claim)) (or_later (host_offer_mismatch claim.query claim.offer) (size_row claim.query.rsa_minimum claim.offer))
    (of_none (host_line_rows e claim) (
      held_key _ ((bytes_eq-Decides (key_blob e.key) (key_blob (subject claim.offer))).1 a.key),
      (
        role_same (marks_authority e.marker) (is_certified claim.offer) a.role,
        (
          is-named _ ((names-decides e.names (looked_up claim.query)).1 a.names),
          tt,
        ),
      ),
    ))
    (none_both (host_offer_mismatch claim.query claim.offer) (size_row claim.query.rsa_minimum claim.offer) (none-offer claim.query claim.offer a.in_force a.critical) (when_off _ reason.RsaTooSmall (none_short claim.query.rsa_minimum claim.offer a.sizes)))
