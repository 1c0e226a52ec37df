-- What a first field is.
use Rattle.ssh_entries.proofs.Imports.{◌≡◌, ◌≢◌, ℕ, Bool, true, false, if◌then◌else◌, List, bytes_eq, refl, sym, ap, ◌∙◌, bytes_eq-Decides, HasNoBlank, begins_with, authority_marker, revoked_marker}
use Rattle.ssh_entries.specs.declared.known_view.FirstField.TheVariants as first
use Rattle.ssh_entries.specs.Markers.{first_field_of}
use Rattle.ssh_entries.proofs.KeyLemmas.{HasNoBlank-from_test}

no-marker : (word marker : List ℕ) → begins_with 64 word ≡ false → begins_with 64 marker ≡ true → bytes_eq word marker ≡ false
no-marker word marker h m = by (bytes_eq word marker) refl
  where
    by : (b : Bool) → bytes_eq word marker ≡ b → bytes_eq word marker ≡ false
    by false e = e
    by true e =
        let same : word ≡ marker = (bytes_eq-Decides word marker).0 e in
        let f : false ≡ true = sym h ∙ ap (begins_with 64) same ∙ m in cc

-- a field that does not begin with `@` is no marker
pub first-names : (word : List ℕ) → begins_with 64 word ≡ false → first_field_of word ≡ first.Names
unfolding first_field_of
first-names word h = rw (no-marker word authority_marker h refl, no-marker word revoked_marker h refl, h) refl

pub first-authority : first_field_of authority_marker ≡ first.CertAuthority
unfolding first_field_of
first-authority = refl

pub first-revoked : first_field_of revoked_marker ≡ first.Revoked
unfolding first_field_of
first-revoked = refl

names-by : (word : List ℕ) (authority revoked at : Bool) → begins_with 64 word ≡ at
    → (if authority then first.CertAuthority else if revoked then first.Revoked else if at then first.Unknown else first.Names) ≡ first.Names
    → begins_with 64 word ≡ false
names-by word true revoked at a h = cc
names-by word false true at a h = cc
names-by word false false true a h = cc
names-by word false false false a h = a

-- names do not begin with `@`
pub names-first : (word : List ℕ) → first_field_of word ≡ first.Names → begins_with 64 word ≡ false
unfolding first_field_of
names-first word h = names-by word (bytes_eq word authority_marker) (bytes_eq word revoked_marker) (begins_with 64 word) refl h

authority-by : (word : List ℕ) (authority revoked at : Bool) → bytes_eq word authority_marker ≡ authority
    → (if authority then first.CertAuthority else if revoked then first.Revoked else if at then first.Unknown else first.Names) ≡ first.CertAuthority
    → word ≡ authority_marker
authority-by word true revoked at a h = (bytes_eq-Decides word authority_marker).0 a
authority-by word false true at a h = cc
authority-by word false false true a h = cc
authority-by word false false false a h = cc

pub authority-first : (word : List ℕ) → first_field_of word ≡ first.CertAuthority → word ≡ authority_marker
unfolding first_field_of
authority-first word h = authority-by word (bytes_eq word authority_marker) (bytes_eq word revoked_marker) (begins_with 64 word) refl h

revoked-by : (word : List ℕ) (authority revoked at : Bool) → bytes_eq word revoked_marker ≡ revoked
    → (if authority then first.CertAuthority else if revoked then first.Revoked else if at then first.Unknown else first.Names) ≡ first.Revoked
    → word ≡ revoked_marker
revoked-by word true revoked at r h = cc
revoked-by word false true at r h = (bytes_eq-Decides word revoked_marker).0 r
revoked-by word false false true r h = cc
revoked-by word false false false r h = cc

pub revoked-first : (word : List ℕ) → first_field_of word ≡ first.Revoked → word ≡ revoked_marker
unfolding first_field_of
revoked-first word h = revoked-by word (bytes_eq word authority_marker) (bytes_eq word revoked_marker) (begins_with 64 word) refl h

pub authority-no_blank : HasNoBlank authority_marker
authority-no_blank = HasNoBlank-from_test authority_marker refl

unknown-by : (word : List ℕ) (authority revoked at : Bool) → bytes_eq word authority_marker ≡ authority → bytes_eq word revoked_marker ≡ revoked
    → begins_with 64 word ≡ at
    → (if authority then first.CertAuthority else if revoked then first.Revoked else if at then first.Unknown else first.Names) ≡ first.Unknown
    → (begins_with 64 word ≡ true) × (word ≢ authority_marker) × (word ≢ revoked_marker)
unknown-by word true revoked at a r t h = cc
unknown-by word false true at a r t h = cc
unknown-by word false false false a r t h = cc
unknown-by word false false true a r t h = (t, other word authority_marker a, other word revoked_marker r)
  where
    other : (a b : List ℕ) → bytes_eq a b ≡ false → a ≢ b
    other a b h e = let f : true ≡ false = sym ((bytes_eq-Decides a b).1 e) ∙ h in cc

pub unknown-first : (word : List ℕ) → first_field_of word ≡ first.Unknown
    → (begins_with 64 word ≡ true) × (word ≢ authority_marker) × (word ≢ revoked_marker)
unfolding first_field_of
unknown-first word h = unknown-by word (bytes_eq word authority_marker) (bytes_eq word revoked_marker) (begins_with 64 word) refl refl refl h
