-- Who is let in by a line is let in by an earlier one of the same key that is free; and a bad list lets nobody in.
use Rattle.ssh_findings.proofs.Imports.{◌≡◌, ◌∙◌, ◌==◌, ◌||◌, ◌&&◌, ◌<◌, ℕ, zero, suc, Bool, true, false, not, cond, List, [], ◌∷◌, Option, Some, None, length, sym, refl, subst, ap, inl, inr, arith, bytes_eq, find, is_some, AllByRecursion, list_any, slice_index_or, and_parts, ne_eqb, TimeZone, PublicKey, ForceCommand, Certificate, CertOption, IsOneString, certificate_option_name, each, Command, ExpiryTime, From, Principals, first_of, setting, settings, AuthEntry, Offer, OfCertificate, certified, is_certified, plain, Login, LoginClaim, pieces, Yes, Address, command_of, AdmitsLogin, CriticalMet, IsUnexpired, IsUserInForce, is_authority, source_by, InForce, Serves, user_certificate, of-source, key_blob, find_some, bytes_eq-Decides, Facts, Finding, Held, held_entry, is_free, is_narrower, is_of_key, is_unlimited, repeat_of, has_name_in, lets_nobody_in, names_nobody, permits_bad, refuses_all_in, says_name, may_refuse, IsFree, IsSame, NamesFirst}
use Rattle.ssh_rights.specs.Rights.{rights_of}
use Rattle.ssh_findings.specs.declared.finding.Finding.TheVariants as finding
use Rattle.ssh_findings.specs.Earlier.{repeat_after, shadow}
use Rattle.ssh_findings.specs.Facts.{facts_of}
use Rattle.ssh_findings.proofs.ListLemmas.{bad_always}

-- ---- what a later line admits, an earlier one that is free admits

force : (e d : AuthEntry) (q : Login) (offer : Offer) → IsSame e d → IsFree d
    → (is_authority e ≡ true → setting Principals e.options ≡ None) → is_authority d ≡ is_certified offer
    → OfCertificate (IsUserInForce e q) offer → OfCertificate (IsUserInForce d q) offer
force e d q (plain key) same free none role f = tt
force e d q (certified c) same free none role f =
    let P : Option (List ℕ) → Type 0 = λ list. InForce user_certificate q.now q.empty_principals list q.user c in
    subst P (none (same.authority ∙ role) ∙ sym (free.principals role)) f

-- a certificate's option that forces a command forces the line's
abbrev ForcesSame : AuthEntry → CertOption → Type 0
ForcesSame d o = o.name ≡ certificate_option_name ForceCommand → (own : List ℕ) → IsOneString own o.value → (line : List ℕ) → setting Command d.options ≡ Some line → line ≡ own

met : (e d : AuthEntry) (address : Address) (offer : Offer) → IsFree d → is_authority d ≡ is_certified offer
    → OfCertificate (CriticalMet e address) offer → OfCertificate (CriticalMet d address) offer
met e d address (plain key) free role m = tt
met e d address (certified c) free role m = record {
  known = m.known;
  once = m.once;
  source = m.source;
  command = each (ForcesSame d) (λ o is own one line h. let bad : None ≡ Some line = sym (free.command role) ∙ h in cc) c.critical;
}

pub shadowed : (e d : AuthEntry) (claim : LoginClaim) → IsSame e d → IsFree d
    → (is_authority e ≡ true → setting Principals e.options ≡ None) → AdmitsLogin e claim → AdmitsLogin d claim
shadowed e d claim same free none a =
    let P : List (List ℕ) → Type 0 = λ texts. AllByRecursion (IsUnexpired claim.query) texts in
    let role : is_authority d ≡ is_certified claim.offer = sym same.authority ∙ a.role in
    record {
      key = sym same.key ∙ a.key;
      role = role;
      unexpired = subst P (sym free.time) tt;
      source = λ list h. let bad : None ≡ Some list = sym free.source ∙ h in cc;
      in_force = force e d claim.query claim.offer same free none role a.in_force;
      critical = met e d claim.address claim.offer free role a.critical;
      sizes = a.sizes;
    }

-- ---- what is tested of a line is that it is free

not-on : (b : Bool) → not b ≡ true → b ≡ false
not-on true h = cc
not-on false h = refl

or-off : (a b : Bool) → (a || b) ≡ false → (a ≡ false) × (b ≡ false)
or-off true b h = cc
or-off false b h = (refl, h)

and-off : (a b : Bool) → (a && b) ≡ false → a ≡ true → b ≡ false
and-off true b h e = h
and-off false b h e = cc

none-some : (o : Option (List ℕ)) → is_some o ≡ false → o ≡ None
none-some None h = refl
none-some (Some text) h = cc

no-texts : (texts : List (List ℕ)) → is_some (first_of texts) ≡ false → texts ≡ []
no-texts [] h = refl
no-texts (text ∷ texts) h = cc

own-command : (o : Option (List ℕ)) (key : PublicKey) → command_of o (plain key) ≡ o
own-command None key = refl
own-command (Some text) key = refl

unlimited : (zone : TimeZone) (d : AuthEntry) → is_unlimited (facts_of zone d) ≡ true → IsFree d
unfolding facts_of rights_of
unlimited zone d h =
    let command = command_of (setting Command d.options) (plain d.key) in
    let first = and_parts (not (is_some (setting From d.options)) && not (is_some (setting ExpiryTime d.options)))
    (not (is_authority d && (is_some command || is_some (setting Principals d.options)))) h in
    let second = and_parts (not (is_some (setting From d.options))) (not (is_some (setting ExpiryTime d.options))) first.0 in
    let rest : is_authority d ≡ true → (is_some command || is_some (setting Principals d.options)) ≡ false =
    λ e. and-off (is_authority d) _ (not-on _ first.1) e in
    record {
      source = none-some (setting From d.options) (not-on _ second.0);
      time = no-texts (settings ExpiryTime d.options) (not-on _ second.1);
      command = λ e. sym (own-command (setting Command d.options) d.key) ∙ none-some command (or-off _ _ (rest e)).0;
      principals = λ e. none-some (setting Principals d.options) (or-off (is_some command) _ (rest e)).1;
    }

pub free : (zone : TimeZone) (d : AuthEntry) → is_free (facts_of zone d) ≡ true → IsFree d
free zone d h = unlimited zone d (and_parts (is_unlimited (facts_of zone d)) (not (may_refuse (facts_of zone d))) h).0

-- ---- the line that is named

same-bool : (a b : Bool) → cond a b (not b) ≡ true → a ≡ b
same-bool true b h = sym h
same-bool false b h = sym (not-on b h)

unlisted : (b : Bool) (found : Option Held) (d : Held) → cond b None found ≡ Some d → (b ≡ false) × (found ≡ Some d)
unlisted true found d h = cc
unlisted false found d h = (refl, h)

-- by the tests
tested : (zone : TimeZone) (e d : AuthEntry) (n : ℕ) (claim : LoginClaim)
    → is_of_key (key_blob e.key) (is_authority e) (held_entry zone n d) ≡ true → is_free (facts_of zone d) ≡ true
    → (is_authority e && is_some (setting Principals e.options)) ≡ false → AdmitsLogin e claim → AdmitsLogin d claim
unfolding facts_of
tested zone e d n claim same unlimited alone a =
    let parts = and_parts (bytes_eq (key_blob d.key) (key_blob e.key)) (cond (is_authority e) (is_authority d) (not (is_authority d))) same in
    let both : IsSame e d = record {
      key = sym ((bytes_eq-Decides (key_blob d.key) (key_blob e.key)).0 parts.0);
      authority = same-bool (is_authority e) (is_authority d) parts.1;
    } in
    shadowed e d claim both (free zone d unlimited)
    (λ on. none-some (setting Principals e.options) (and-off (is_authority e) _ alone on)) a

pub named : (zone : TimeZone) (earlier : List Held) (e d : AuthEntry) (n : ℕ) (claim : LoginClaim)
    → shadow earlier (key_blob e.key) (facts_of zone e) ≡ Some (held_entry zone n d) → AdmitsLogin e claim → AdmitsLogin d claim
unfolding shadow facts_of
named zone earlier e d n claim h a =
    let test : Held → Bool = λ x. is_of_key (key_blob e.key) (is_authority e) x && is_free x.facts in
    let found = unlisted (is_authority e && is_some (setting Principals e.options)) (find test earlier) (held_entry zone n d) h in
    let passed = and_parts (is_of_key (key_blob e.key) (is_authority e) (held_entry zone n d)) (is_free (facts_of zone d))
    (find_some test earlier (held_entry zone n d) found.1) in
    tested zone e d n claim passed.0 passed.1 found.0 a

-- ---- OpenSSH has no known ground to refuse it

pub unrefused : (earlier : List Held) (blob : List ℕ) (f : Facts) (d : Held) → shadow earlier blob f ≡ Some d → may_refuse d.facts ≡ false
unfolding shadow
unrefused earlier blob f d h =
    let test : Held → Bool = λ x. is_of_key blob f.is_authority x && is_free x.facts in
    let found = unlisted (f.is_authority && is_some f.principals) (find test earlier) d h in
    let passed = and_parts (is_of_key blob f.is_authority d) (is_free d.facts) (find_some test earlier d found.1) in
    not-on (may_refuse d.facts) (and_parts (is_unlimited d.facts) (not (may_refuse d.facts)) passed.1).1

line-of : Option Finding → ℕ
line-of (Some (finding.NeverDecides n)) = n
line-of (Some (finding.GivesMore n)) = n
line-of found = 0

named-first : (first decides : Option Held) (f : Facts) (n : ℕ) → NamesFirst (repeat_of first decides f) n → (d : Held) × (decides ≡ Some d) × (d.line ≡ n)
unfolding line-of
named-first None found f n (inl h) = cc
named-first None found f n (inr h) = cc
named-first (Some first) None f n (inl h) = cc
named-first (Some first) None f n (inr h) = cc
named-first (Some first) (Some d) f n h = go (is_narrower f d.facts) h
  where
    go : (b : Bool) → NamesFirst (cond b (Some (finding.GivesMore d.line)) (Some (finding.NeverDecides d.line))) n
        → (e : Held) × (Some d ≡ Some e) × (e.line ≡ n)
    go true (inl k) = cc
    go true (inr k) = (d, refl, ap line-of k)
    go false (inl k) = (d, refl, ap line-of k)
    go false (inr k) = cc

pub reported : (earlier : List Held) (blob : List ℕ) (f : Facts) (n : ℕ) → NamesFirst (repeat_after earlier blob f) n
    → (d : Held) × (shadow earlier blob f ≡ Some d) × (d.line ≡ n)
unfolding repeat_after
reported earlier blob f n h = named-first (find (λ d. is_of_key blob f.is_authority d) earlier) (shadow earlier blob f) f n h

-- ---- a bad list lets nobody in

pub there : (f : Facts) → lets_nobody_in f ≡ true → (permits_bad f.from ≡ true) × (refuses_all_in f.from ≡ true)
there f h = and_parts (permits_bad f.from) (refuses_all_in f.from) h

bad-source : (list : Option (List ℕ)) (q : Login) → permits_bad list ≡ true → source_by list q ≡ Yes → ⊥
bad-source None q h e = cc
bad-source (Some list) q h e = let bad : true ≡ false = bad_always list q.host q.address h e in cc

pub no_sources : (zone : TimeZone) (e : AuthEntry) (claim : LoginClaim) → permits_bad (facts_of zone e).from ≡ true → AdmitsLogin e claim → ⊥
unfolding facts_of
no_sources zone e claim h a = bad-source (setting From e.options) claim.query h (of-source (setting From e.options) claim.query a.source)

empty-name : (name : List ℕ) → says_name name ≡ false → name ≡ []
empty-name [] h = refl
empty-name (c ∷ cs) h =
    let off : (length (c ∷ cs) == 0) ≡ false = ne_eqb _ _ (λ e. omega arith) in
    let bad : not false ≡ false = rw off at h in
    cc

none-named : (names : List (List ℕ)) (name : List ℕ) (k : ℕ) → list_any says_name names ≡ false → k < length names
    → slice_index_or names k name ≡ name → name ≡ []
none-named [] name k h below same = absurd (omega arith)
none-named (first ∷ names) name zero h below same = sym same ∙ empty-name first (or-off _ _ h).0
none-named (first ∷ names) name (suc k) h below same = none-named names name k (or-off (says_name first) _ h).1 (omega arith) same

serves-nobody : (list : Option (List ℕ)) (q : Login) (c : Certificate) → is_some list ≡ true → has_name_in list ≡ false
    → Serves q.empty_principals list q.user c → ⊥
serves-nobody None q c some h s = cc
serves-nobody (Some list) q c some h s = s.2 (none-named (pieces list) s.0 (s.1).0 h (s.1).1 (s.1).2)

offers-nobody : (e : AuthEntry) (q : Login) (offer : Offer) → is_authority e ≡ true → is_some (setting Principals e.options) ≡ true
    → has_name_in (setting Principals e.options) ≡ false → is_authority e ≡ is_certified offer
    → OfCertificate (IsUserInForce e q) offer → ⊥
offers-nobody e q (plain key) on some h role f = let bad : true ≡ false = sym on ∙ role in cc
offers-nobody e q (certified c) on some h role f = serves-nobody (setting Principals e.options) q c some h f.principal

pub no_principals : (zone : TimeZone) (e : AuthEntry) (claim : LoginClaim) → names_nobody (facts_of zone e) ≡ true → AdmitsLogin e claim → ⊥
unfolding facts_of
no_principals zone e claim h a =
    let first = and_parts (is_authority e && is_some (setting Principals e.options)) (not (has_name_in (setting Principals e.options))) h in
    let second = and_parts (is_authority e) (is_some (setting Principals e.options)) first.0 in
    offers-nobody e claim.query claim.offer second.0 second.1 (not-on _ first.1) a.role a.in_force
