-- The names of key types, and the class of a name.
use Rattle.ssh_entries.proofs.Imports.{◌≡◌, ℕ, Bool, true, false, inl, inr, List, [], ◌∷◌, bytes_eq, codes, Option, Some, None, find, refl, sym, cases_Bool, bytes_eq-Decides, KeyKind, Rsa, P256, P384, P521, Ed25519, SkP256, SkEd25519, Plain, kinds, key_name_of, certificate_name_of, class_by, class_of}
use Rattle.ssh_keys.specs.Names.{plain_kind, certificate_kind}

found : (test : KeyKind → Bool) (ks : List KeyKind) (kind : KeyKind) → find test ks ≡ Some kind → test kind ≡ true
found test [] kind h = cc
found test (k ∷ ks) kind h =
    elim (cases_Bool (test k)) [
      | inl e ↦ let f : Some k ≡ Some kind = rw e at h in let g : k ≡ kind = cc in rw (← g) e
      | inr e ↦ let f : find test ks ≡ Some kind = rw e at h in found test ks kind f
    ]

pub plain_kind-named : (word : List ℕ) (kind : KeyKind) → plain_kind word ≡ Some kind → word ≡ key_name_of kind
unfolding plain_kind
plain_kind-named word kind h =
    sym ((bytes_eq-Decides (key_name_of kind) word).0 (found (λ k. bytes_eq (key_name_of k) word) kinds kind h))

pub certificate_kind-named : (word : List ℕ) (kind : KeyKind) → certificate_kind word ≡ Some kind → word ≡ certificate_name_of kind
unfolding certificate_kind
certificate_kind-named word kind h =
    sym ((bytes_eq-Decides (certificate_name_of kind) word).0 (found (λ k. bytes_eq (certificate_name_of k) word) kinds kind h))

plain-by : (word : List ℕ) (plain certificate : Option KeyKind) (retired : Bool) (kind : KeyKind)
    → plain_kind word ≡ plain → class_by plain certificate retired ≡ Plain kind → word ≡ key_name_of kind
plain-by word (Some other) certificate retired kind p h =
    let e : other ≡ kind = cc in rw (← e) (plain_kind-named word other p)
plain-by word None (Some other) retired kind p h = cc
plain-by word None None true kind p h = cc
plain-by word None None false kind p h = cc

-- a plain name is the name of its kind
pub plain-name : (word : List ℕ) (kind : KeyKind) → class_of word ≡ Plain kind → word ≡ key_name_of kind
plain-name word kind h =
    plain-by word (plain_kind word) (certificate_kind word) (bytes_eq word (codes "ssh-dss")) kind refl h

pub class-of_name : (kind : KeyKind) → class_of (key_name_of kind) ≡ Plain kind
unfolding plain_kind
class-of_name Rsa = refl
class-of_name P256 = refl
class-of_name P384 = refl
class-of_name P521 = refl
class-of_name Ed25519 = refl
class-of_name SkP256 = refl
class-of_name SkEd25519 = refl
