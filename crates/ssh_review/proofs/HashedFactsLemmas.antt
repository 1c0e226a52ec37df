-- Lines decide as before when the names of some are hashed, but for names with the same hash.
use Rattle.ssh_review.proofs.Imports.{◌≡◌, ◌≢◌, ◌∙◌, ◌⊎◌, ◌↔◌, ◌≤◌, ℕ, zero, suc, ◌+◌, ◌-◌, Bool, true, false, ◌||◌, if◌then◌else◌, List, [], ◌∷◌, ◌++◌, length, map, drop, Option, Some, None, refl, sym, ap, subst, inl, inr, arith, Contains, flat_map, list_any, zip, bytes_eq, and_parts, or_cases, length-append, length-drop, Contains-append_left, Contains-append_right, list_any-append, bytes_eq-Decides, Names, NamesHost, hidden, name_hash, KnownEntry, KnownLine, are_plain, hashed_facts, hidden_entry, hidden_names, is_hidden, lower_names, names_of_hidden, state_in_place, mem-from, mem-to, have-name, lookup-lower, name-had, HostClaim, Mismatch, AdmitsHost, host_mismatch, looked_up, verdict_by, host_verdict, host_where_none, none_where_host, admits}
use Rattle.ssh_entries.specs.declared.known_line.KnownLine.TheVariants as known
use Rattle.ssh_review.proofs.ListLemmas.{contains-cases, contains-here, contains-later, contains-none, or-here, or-later}

-- ---- a line whose names are hashed

record IsHiding (said : KnownLine) (entry : KnownEntry) : Type 0 where
  says : said ≡ known.Entry entry
  hides : hidden_entry said ≡ Some entry
  plain : are_plain entry.names ≡ true

hiding-by : (entry : KnownEntry) (b : Bool) → is_hidden entry ≡ b → (hidden_entry (known.Entry entry) ≡ None) ⊎ ((e : KnownEntry) × IsHiding (known.Entry entry) e)
hiding-by entry true h = inr (
  entry,
  record {
    says = refl;
    hides = ap (λ b. if b then Some entry else None) h;
    plain = (and_parts (are_plain entry.names) _ h).0;
  },
)
hiding-by entry false h = inl (ap (λ b. if b then Some entry else None) h)

hiding : (said : KnownLine) → (hidden_entry said ≡ None) ⊎ ((entry : KnownEntry) × IsHiding said entry)
hiding (known.Entry entry) = hiding-by entry (is_hidden entry) refl
hiding known.Blank = inl refl
hiding known.Comment = inl refl
hiding (known.Revoked bytes) = inl refl
hiding known.RevokedUnreadable = inl refl
hiding (known.Unreadable cause) = inl refl

-- what a line is read as with a salt and a name in place of an entry
abbrev made : KnownEntry → List ℕ × List ℕ → KnownLine
made entry x = known.Entry (record entry { names = hidden x.0 x.1 })

-- ---- what no entry is

none-made : (passes : KnownLine → Bool) → ((e : KnownEntry) → passes (known.Entry e) ≡ false) → (entry : KnownEntry) (pairs : List (List ℕ × List ℕ))
    → list_any passes (map (made entry) pairs) ≡ false
none-made passes apart entry [] = refl
none-made passes apart entry (x ∷ xs) = rw (apart (record entry { names = hidden x.0 x.1 })) (none-made passes apart entry xs)

or-nothing : (b : Bool) → (b || false) ≡ b
or-nothing true = refl
or-nothing false = refl

place-any : (passes : KnownLine → Bool) → ((e : KnownEntry) → passes (known.Entry e) ≡ false) → (said : KnownLine) (salts : List (List ℕ))
    → list_any passes (state_in_place (hidden_entry said) said salts) ≡ passes said
place-any passes apart said salts =
    elim (hiding said) [
      | inl none ↦ ap (λ o. list_any passes (state_in_place o said salts)) none ∙ or-nothing (passes said)
      | inr found ↦ ap (λ o. list_any passes (state_in_place o said salts)) found.1.hides
          ∙ none-made passes apart found.0 (zip salts (lower_names found.0.names)) ∙ sym (ap passes found.1.says ∙ apart found.0)
    ]

-- what is so of some line and of no entry stays so
pub any-kept : (passes : KnownLine → Bool) → ((e : KnownEntry) → passes (known.Entry e) ≡ false) → (facts : List KnownLine) (salts : List (List ℕ))
    → list_any passes (hashed_facts facts salts) ≡ list_any passes facts
any-kept passes apart [] salts = refl
any-kept passes apart (said ∷ lines) salts =
    let rest = drop (length (hidden_names said)) salts in
    list_any-append passes (state_in_place (hidden_entry said) said salts) (hashed_facts lines rest)
    ∙ ap (λ b. b || list_any passes (hashed_facts lines rest)) (place-any passes apart said salts)
    ∙ ap (λ b. passes said || b) (any-kept passes apart lines rest)

-- ---- entries that admit

abbrev pub admitting : HostClaim → KnownLine → Bool
admitting claim said = admits (host_verdict claim said)

admits-none : (o : Option Mismatch) (e : KnownEntry) → admits (verdict_by o e) ≡ true → o ≡ None
admits-none None e h = refl
admits-none (Some mismatch) e h = cc

entry-admits : (claim : HostClaim) (e : KnownEntry) → admitting claim (known.Entry e) ≡ true → AdmitsHost e claim
entry-admits claim e h = host_where_none e claim (admits-none (host_mismatch e claim) e h)

admits-entry : (claim : HostClaim) (e : KnownEntry) → AdmitsHost e claim → admitting claim (known.Entry e) ≡ true
admits-entry claim e a = ap (λ (o : Option Mismatch). admits (verdict_by o e)) (none_where_host e claim a)

-- the same entry but for its names
with-names : (claim : HostClaim) (e : KnownEntry) (names : Names) → AdmitsHost e claim → NamesHost names (looked_up claim.query) → AdmitsHost (record e { names = names }) claim
with-names claim e names a h = record { key = a.key; role = a.role; names = h; in_force = a.in_force; critical = a.critical; sizes = a.sizes }

without-names : (claim : HostClaim) (e : KnownEntry) (names : Names) → AdmitsHost (record e { names = names }) claim → NamesHost e.names (looked_up claim.query) → AdmitsHost e claim
without-names claim e names a h = record { key = a.key; role = a.role; names = h; in_force = a.in_force; critical = a.critical; sizes = a.sizes }

names-plain : (names : Names) (claim : HostClaim) → are_plain names ≡ true → NamesHost names (looked_up claim.query) ↔ Contains (lower_names names) (looked_up claim.query)
names-plain names claim p =
    let lower = lookup-lower claim.query.host claim.query.port in (
      λ h. mem-to (lower_names names) (looked_up claim.query) (have-name names (looked_up claim.query) p lower h),
      λ h. name-had names (looked_up claim.query) p lower (mem-from (lower_names names) (looked_up claim.query) h),
    )

-- ---- forwards

made-admits : (claim : HostClaim) (entry : KnownEntry) → AdmitsHost entry claim → (salts names : List (List ℕ)) → Contains names (looked_up claim.query)
    → length names ≤ length salts → list_any (admitting claim) (map (made entry) (zip salts names)) ≡ true
made-admits claim entry a salts [] has fits = absurd (contains-none (looked_up claim.query) has)
made-admits claim entry a [] (name ∷ names) has fits = absurd (omega (arith, fits))
made-admits claim entry a (salt ∷ salts) (name ∷ names) has fits =
    elim (contains-cases name (looked_up claim.query) names has) [
      | inl here ↦ or-here (admitting claim (made entry (salt, name))) (list_any (admitting claim) (map (made entry) (zip salts names)))
          (admits-entry claim (record entry { names = hidden salt name }) (with-names claim entry (hidden salt name) a (ap (λ (n : List ℕ). name_hash salt n) here)))
      | inr later ↦ or-later (admitting claim (made entry (salt, name))) (list_any (admitting claim) (map (made entry) (zip salts names)))
          (made-admits claim entry a salts names later (omega (arith, fits)))
    ]

place-admits : (claim : HostClaim) (said : KnownLine) (salts : List (List ℕ)) → length (hidden_names said) ≤ length salts → admitting claim said ≡ true
    → list_any (admitting claim) (state_in_place (hidden_entry said) said salts) ≡ true
place-admits claim said salts fits h =
    elim (hiding said) [
      | inl none ↦ ap (λ o. list_any (admitting claim) (state_in_place o said salts)) none ∙ or-here (admitting claim said) false h
      | inr found ↦
          let a : AdmitsHost found.0 claim = entry-admits claim found.0 (ap (admitting claim) (sym found.1.says) ∙ h) in
          let count : length (hidden_names said) ≡ length (lower_names found.0.names) = ap (λ o. length (names_of_hidden o)) found.1.hides in
          ap (λ o. list_any (admitting claim) (state_in_place o said salts)) found.1.hides
          ∙ made-admits claim found.0 a salts (lower_names found.0.names) ((names-plain found.0.names claim found.1.plain).0 a.names) (omega (arith, count, fits))
    ]

-- some line still admits, if each hashed name has a salt
pub admission-kept : (claim : HostClaim) (facts : List KnownLine) (salts : List (List ℕ)) → length (flat_map hidden_names facts) ≤ length salts
    → list_any (admitting claim) facts ≡ true → list_any (admitting claim) (hashed_facts facts salts) ≡ true
admission-kept claim [] salts fits h = h
admission-kept claim (said ∷ lines) salts fits h =
    let rest = drop (length (hidden_names said)) salts in
    let all : length (flat_map hidden_names (said ∷ lines)) ≡ length (hidden_names said) + length (flat_map hidden_names lines) = length-append (hidden_names said) (flat_map hidden_names lines) in
    let left : length rest ≡ length salts - length (hidden_names said) = length-drop (length (hidden_names said)) salts in
    list_any-append (admitting claim) (state_in_place (hidden_entry said) said salts) (hashed_facts lines rest)
    ∙ elim (or_cases (admitting claim said) (list_any (admitting claim) lines) h) [
      | inl here ↦ or-here (list_any (admitting claim) (state_in_place (hidden_entry said) said salts)) (list_any (admitting claim) (hashed_facts lines rest))
          (place-admits claim said salts (omega (arith, fits, all)) here)
      | inr later ↦ or-later (list_any (admitting claim) (state_in_place (hidden_entry said) said salts)) (list_any (admitting claim) (hashed_facts lines rest))
          (admission-kept claim lines rest (omega (arith, fits, all, left)) later)
    ]

-- ---- backwards

-- a line with a hashed name admits, and another name of the entry that it was made of has the same hash
pub record IsShared (old new : List KnownLine) (salts : List (List ℕ)) (claim : HostClaim) : Type 0 where
  pub made : KnownEntry
  pub stands : Contains new (known.Entry made)
  pub admits : AdmitsHost made claim
  pub entry : KnownEntry
  pub of : Contains old (known.Entry entry)
  pub same_key : entry.key ≡ made.key
  pub same_marker : entry.marker ≡ made.marker
  pub salt : List ℕ
  pub is_salt : Contains salts salt
  pub other : List ℕ
  pub is_other : Contains (lower_names entry.names) other
  pub unlike : other ≢ looked_up claim.query
  pub made_of : made.names ≡ hidden salt other
  pub same_hash : name_hash salt (looked_up claim.query) ≡ name_hash salt other

-- a salt and a name of which the test holds
record Pair (passes : KnownLine → Bool) (entry : KnownEntry) (salts names : List (List ℕ)) : Type 0 where
  salt : List ℕ
  name : List ℕ
  is_salt : Contains salts salt
  is_name : Contains names name
  stands : Contains (map (made entry) (zip salts names)) (made entry (salt, name))
  holds : passes (made entry (salt, name)) ≡ true

pair : (passes : KnownLine → Bool) (entry : KnownEntry) (salts names : List (List ℕ)) → list_any passes (map (made entry) (zip salts names)) ≡ true → Pair passes entry salts names
pair passes entry [] names h = cc
pair passes entry (salt ∷ salts) [] h = cc
pair passes entry (salt ∷ salts) (name ∷ names) h =
    elim (or_cases (passes (made entry (salt, name))) (list_any passes (map (made entry) (zip salts names))) h) [
      | inl here ↦ record {
        salt = salt;
        name = name;
        is_salt = contains-here salt salt salts refl;
        is_name = contains-here name name names refl;
        stands = contains-here (made entry (salt, name)) (made entry (salt, name)) (map (made entry) (zip salts names)) refl;
        holds = here;
      }
      | inr later ↦
          let p = pair passes entry salts names later in
          record {
            salt = p.salt;
            name = p.name;
            is_salt = contains-later salt p.salt salts p.is_salt;
            is_name = contains-later name p.name names p.is_name;
            stands = contains-later (made entry (salt, name)) (made entry (p.salt, p.name)) (map (made entry) (zip salts names)) p.stands;
            holds = p.holds;
          }
    ]

shared-by : (claim : HostClaim) (entry : KnownEntry) (salts : List (List ℕ)) → are_plain entry.names ≡ true
    → (p : Pair (admitting claim) entry salts (lower_names entry.names)) (b : Bool) → bytes_eq p.name (looked_up claim.query) ≡ b
    → (admitting claim (known.Entry entry) ≡ true)
    ⊎ IsShared (known.Entry entry ∷ []) (map (made entry) (zip salts (lower_names entry.names))) salts claim
shared-by claim entry salts plain p true e =
    let a = entry-admits claim (record entry { names = hidden p.salt p.name }) p.holds in
    let same : p.name ≡ looked_up claim.query = (bytes_eq-Decides p.name (looked_up claim.query)).0 e in
    inl (admits-entry claim entry (without-names claim entry (hidden p.salt p.name) a
    ((names-plain entry.names claim plain).1 (subst (λ (n : List ℕ). Contains (lower_names entry.names) n) same p.is_name))))
shared-by claim entry salts plain p false e =
    let a = entry-admits claim (record entry { names = hidden p.salt p.name }) p.holds in
    inr (record {
      made = record entry { names = hidden p.salt p.name };
      stands = p.stands;
      admits = a;
      entry = entry;
      of = contains-here (known.Entry entry) (known.Entry entry) [] refl;
      same_key = refl;
      same_marker = refl;
      salt = p.salt;
      is_salt = p.is_salt;
      other = p.name;
      is_other = p.is_name;
      unlike = λ same. (let bad : true ≡ false = sym ((bytes_eq-Decides p.name (looked_up claim.query)).1 same) ∙ e in cc);
      made_of = refl;
      same_hash = sym a.names;
    })

drop-contains : {X : Type 0} (k : ℕ) (xs : List X) (x : X) → Contains (drop k xs) x → Contains xs x
drop-contains zero xs x h = h
drop-contains (suc k) [] x h = h
drop-contains (suc k) (y ∷ ys) x h = contains-later y x ys (drop-contains k ys x h)

-- among more lines and salts
shared-more : (old new more_old more_new : List KnownLine) (salts more_salts : List (List ℕ)) (claim : HostClaim)
    → ((x : KnownLine) → Contains old x → Contains more_old x) → ((x : KnownLine) → Contains new x → Contains more_new x)
    → ((x : List ℕ) → Contains salts x → Contains more_salts x) → IsShared old new salts claim → IsShared more_old more_new more_salts claim
shared-more old new more_old more_new salts more_salts claim f g k s = record {
  made = s.made;
  stands = g (known.Entry s.made) s.stands;
  admits = s.admits;
  entry = s.entry;
  of = f (known.Entry s.entry) s.of;
  same_key = s.same_key;
  same_marker = s.same_marker;
  salt = s.salt;
  is_salt = k s.salt s.is_salt;
  other = s.other;
  is_other = s.is_other;
  unlike = s.unlike;
  made_of = s.made_of;
  same_hash = s.same_hash;
}

place-shares : (claim : HostClaim) (said : KnownLine) (salts : List (List ℕ)) → list_any (admitting claim) (state_in_place (hidden_entry said) said salts) ≡ true
    → (admitting claim said ≡ true) ⊎ IsShared (said ∷ []) (state_in_place (hidden_entry said) said salts) salts claim
place-shares claim said salts h =
    elim (hiding said) [
      | inl none ↦ inl (sym (or-nothing (admitting claim said)) ∙ ap (λ o. list_any (admitting claim) (state_in_place o said salts)) (sym none) ∙ h)
      | inr found ↦
          let entry = found.0 in
          let p = pair (admitting claim) entry salts (lower_names entry.names) (ap (λ o. list_any (admitting claim) (state_in_place o said salts)) (sym found.1.hides) ∙ h) in
          elim (shared-by claim entry salts found.1.plain p (bytes_eq p.name (looked_up claim.query)) refl) [
            | inl same ↦ inl (ap (admitting claim) found.1.says ∙ same)
            | inr shared ↦ inr (subst (λ (o : Option KnownEntry). IsShared (said ∷ []) (state_in_place o said salts) salts claim) (sym found.1.hides)
                (subst (λ (s : KnownLine). IsShared (s ∷ []) (map (made entry) (zip salts (lower_names entry.names))) salts claim) (sym found.1.says) shared))
          ]
    ]

-- no line admits that did not, but by a hash that is shared
pub admission-added : (claim : HostClaim) (facts : List KnownLine) (salts : List (List ℕ)) → list_any (admitting claim) (hashed_facts facts salts) ≡ true
    → (list_any (admitting claim) facts ≡ true) ⊎ IsShared facts (hashed_facts facts salts) salts claim
admission-added claim [] salts h = cc
admission-added claim (said ∷ lines) salts h =
    let rest = drop (length (hidden_names said)) salts in
    let place = state_in_place (hidden_entry said) said salts in
    let both : (list_any (admitting claim) place || list_any (admitting claim) (hashed_facts lines rest)) ≡ true = sym (list_any-append (admitting claim) place (hashed_facts lines rest)) ∙ h in
    elim (or_cases (list_any (admitting claim) place) (list_any (admitting claim) (hashed_facts lines rest)) both) [
      | inl here ↦ elim (place-shares claim said salts here) [
        | inl same ↦ inl (or-here (admitting claim said) (list_any (admitting claim) lines) same)
        | inr shared ↦ inr (shared-more (said ∷ []) place (said ∷ lines) (place ++ hashed_facts lines rest) salts salts claim
            (λ x at. Contains-append_left (said ∷ []) lines x at) (λ x at. Contains-append_left place (hashed_facts lines rest) x at) (λ x at. at) shared)
      ]
      | inr later ↦ elim (admission-added claim lines rest later) [
        | inl same ↦ inl (or-later (admitting claim said) (list_any (admitting claim) lines) same)
        | inr shared ↦ inr (shared-more lines (hashed_facts lines rest) (said ∷ lines) (place ++ hashed_facts lines rest) rest salts claim
            (λ x at. contains-later said x lines at) (λ x at. Contains-append_right place (hashed_facts lines rest) x at)
            (λ x at. drop-contains (length (hidden_names said)) salts x at) shared)
      ]
    ]
