-- What is answered whatever memory does: tests of a few values.
use Rattle.ssh_rules.proofs.Imports.{◌≡◌, ◌&&◌, ◌||◌, Bool, true, false, List, ◌∷◌, Option, Some, None, refl, list_any, bytes_eq, key_blob, AuthEntry, Entry, LoginClaim, is_certified, subject, From, Principals, setting, is_authority, line_rows, offer_mismatch, Mismatch, first_mismatch, key_row, or_later, role_row, size_row, has_escaped, is_about, is_escaped, is_in_role, is_named, needs_memory, owns_name, verdict_by}
use Rattle.ssh_rules.specs.Admission.{login_mismatch}
use Rattle.ssh_rules.proofs.Tests.{or_off}

-- ---- a line about the key, in its role

pub about_by_rows : (same authority certified : Bool) (rows : List (Option Mismatch)) → first_mismatch (key_row same ∷ role_row authority certified ∷ rows) ≡ None
    → (same && is_in_role authority certified) ≡ true
about_by_rows true true true rows h = refl
about_by_rows true true false rows h = cc
about_by_rows true false true rows h = cc
about_by_rows true false false rows h = refl
about_by_rows false authority certified rows h = cc

off_by_role : (authority certified expiry source principals : Bool) → role_row authority certified ≡ None
    → (is_in_role authority certified && (expiry || (source || principals))) ≡ false → source ≡ false
off_by_role true true true source principals none h = cc
off_by_role true true false true principals none h = cc
off_by_role true true false false principals none h = refl
off_by_role true false expiry source principals none h = cc
off_by_role false true expiry source principals none h = cc
off_by_role false false true source principals none h = cc
off_by_role false false false true principals none h = cc
off_by_role false false false false principals none h = refl

-- where its role is no reason against a line, and no value of it has a quote, its list of sources has none
pub source_plain : (e : AuthEntry) (certified : Bool) → role_row (is_authority e) certified ≡ None
    → (is_in_role (is_authority e) certified && has_escaped e) ≡ false → is_escaped (setting From e.options) ≡ false
source_plain e certified none h = off_by_role (is_authority e) certified _ _ _ none h

-- ---- tests

pub first_off : (about a b : Bool) → about ≡ true → (about && (a || b)) ≡ false → a ≡ false
first_off true true b h k = cc
first_off true false b h k = refl
first_off false a b h k = cc

pub rest_off : (about a b : Bool) → about ≡ true → (about && (a || b)) ≡ false → b ≡ false
rest_off true true b h k = cc
rest_off true false b h k = k
rest_off false a b h k = cc

-- without the last test it is off too, and without the first where that one is on
pub fewer_off : (same role a b : Bool) → same ≡ true → ((same && role) && (a || b)) ≡ false → (role && a) ≡ false
fewer_off true true true b k h = cc
fewer_off true true false b k h = refl
fewer_off true false a b k h = refl
fewer_off false role a b k h = cc

-- ---- what stands against an entry

pub named_later : (a b : Option Mismatch) → is_named (or_later a b) ≡ false → is_named a ≡ false
named_later None b h = refl
named_later (Some o) b h = h

pub verdict_named : {E : Type 0} (o : Option Mismatch) (e : E) → owns_name (verdict_by o e) ≡ is_named o
verdict_named None e = refl
verdict_named (Some o) e = refl

-- ---- values

pub first_plain : {A : Type 0} (p : A → Bool) (x : A) (rest all : List A) → all ≡ x ∷ rest → list_any p all ≡ false → p x ≡ false
first_plain p x rest all e h = (or_off (p x) (list_any p rest) (rw e at h)).0

-- ---- entries

pub entry_off : (e : AuthEntry) (claim : LoginClaim) → needs_memory claim (Entry e) ≡ false
    → (is_about e claim && (has_escaped e || is_named (login_mismatch e claim))) ≡ false
entry_off e claim h = rw (verdict_named (login_mismatch e claim) e) at h

-- an entry that holds the key, in its role, has no value with a quote
pub held_off : (noted e : AuthEntry) (said claim : LoginClaim) → noted ≡ e → said ≡ claim
    → bytes_eq (key_blob e.key) (key_blob (subject claim.offer)) ≡ true
    → (is_about e claim && (has_escaped e || is_named (login_mismatch e claim))) ≡ false
    → (is_in_role (is_authority noted) (is_certified said.offer) && has_escaped noted) ≡ false
held_off noted e said claim same reported holds h =
    rw (same, reported) (fewer_off _ (is_in_role (is_authority e) (is_certified claim.offer)) (has_escaped e) _ holds h)

-- where no row about the line holds, the entry is about the key; so no principals have a quote, and no option is named
pub passed_line : (e : AuthEntry) (claim : LoginClaim) → first_mismatch (line_rows e claim) ≡ None
    → (is_about e claim && (has_escaped e || is_named (login_mismatch e claim))) ≡ false
    → (is_escaped (setting Principals e.options) ≡ false) × (is_named (offer_mismatch e claim claim.offer) ≡ false)
unfolding login_mismatch
passed_line e claim none h =
    let matcher = about_by_rows (bytes_eq (key_blob e.key) (key_blob (subject claim.offer))) (is_authority e) (is_certified claim.offer) _ none in
    let escaped = first_off (is_about e claim) (has_escaped e) _ matcher h in
    let named : is_named (login_mismatch e claim) ≡ false = rest_off (is_about e claim) (has_escaped e) _ matcher h in
    let later : is_named (or_later (offer_mismatch e claim claim.offer) (size_row claim.query.rsa_minimum claim.offer)) ≡ false = rw none at named in
    ((or_off _ _ (or_off _ _ escaped).1).1, named_later (offer_mismatch e claim claim.offer) _ later)
