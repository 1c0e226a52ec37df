-- Whom a certificate serves.
use Rattle.ssh_rules.proofs.Imports.{◌≡◌, ◌⊎◌, ◌∙◌, ◌==◌, ◌||◌, ◌<◌, ℕ, zero, suc, Bool, true, false, List, [], ◌∷◌, Option, Some, None, length, ap, sym, refl, inl, inr, arith, ◌↔◌, Contains, IsTrue, Decides, list_any, slice_index_or, bytes_eq, ne_eqb, Decides-eqb, same_from_decides, bytes_eq-Decides, Certificate, HasPrincipal, no_principals, EmptyPrincipals, Any, Never, has_principal, is_listed, listed_names, serves, IsForAll, Serves, is_for_none}
use Rattle.std.proofs.Common.{◌≢◌}

or-true : (a : Bool) {b : Bool} → b ≡ true → (a || b) ≡ true
or-true true h = refl
or-true false h = h

-- ---- members of a list

in-tail : (x name : List ℕ) (xs : List (List ℕ)) → Contains xs name → Contains (x ∷ xs) name
in-tail x name xs (k, below, same) = (suc k, omega arith, same)

-- a member passes the test, and what passes it is one
found-at : (name x : List ℕ) (xs : List (List ℕ)) → (list_any (λ p. bytes_eq name p) xs ≡ true → Contains xs name) → (b : Bool) → bytes_eq name x ≡ b
    → (b || list_any (λ p. bytes_eq name p) xs) ≡ true → Contains (x ∷ xs) name
found-at name x xs rest true e h = (zero, omega arith, sym ((bytes_eq-Decides name x).0 e))
found-at name x xs rest false e h = in-tail x name xs (rest h)

found : (name : List ℕ) (xs : List (List ℕ)) → list_any (λ p. bytes_eq name p) xs ≡ true → Contains xs name
found name [] h = cc
found name (x ∷ xs) h = found-at name x xs (found name xs) (bytes_eq name x) refl h

at-member : (name : List ℕ) (xs : List (List ℕ)) (k : ℕ) → k < length xs → slice_index_or xs k name ≡ name → list_any (λ p. bytes_eq name p) xs ≡ true
at-member name [] k below same = absurd (omega arith)
at-member name (x ∷ xs) zero below same =
    let here : bytes_eq name x ≡ true = (bytes_eq-Decides name x).1 (sym same) in
    rw here refl
at-member name (x ∷ xs) (suc k) below same = or-true (bytes_eq name x) (at-member name xs k (omega arith) same)

pub member-decides : (name : List ℕ) (xs : List (List ℕ)) → Decides (list_any (λ p. bytes_eq name p) xs) (Contains xs name)
member-decides name xs = (found name xs, λ h. at-member name xs h.0 h.1 h.2)

-- what decides membership is the test
pub principal-same : (c : Certificate) (name : List ℕ) (r : Bool) → IsTrue r ↔ HasPrincipal c name → r ≡ has_principal c name
principal-same c name r h = same_from_decides r (has_principal c name) h (member-decides name c.principals)

-- ---- whom a certificate serves

-- one of the names is a principal
abbrev SomeIs : Certificate → List (List ℕ) → Type 0
SomeIs c names = (name : List ℕ) × Contains names name × (name ≢ []) × HasPrincipal c name

named : (c : Certificate) (n : List ℕ) → is_listed c n ≡ true → (n ≢ []) × HasPrincipal c n
named c [] h = cc
named c (x ∷ xs) h =
    let off : (length (x ∷ xs) == 0) ≡ false = ne_eqb _ _ (λ e. omega arith) in
    (λ e. cc, (member-decides (x ∷ xs) c.principals).0 (rw off at h))

is-named : (c : Certificate) (n : List ℕ) → n ≢ [] → HasPrincipal c n → is_listed c n ≡ true
is-named c [] some h = absurd (some refl)
is-named c (x ∷ xs) some h =
    let off : (length (x ∷ xs) == 0) ≡ false = ne_eqb _ _ (λ e. omega arith) in
    rw off ((member-decides (x ∷ xs) c.principals).1 h)

some-at : (c : Certificate) (n : List ℕ) (names : List (List ℕ)) → (list_any (is_listed c) names ≡ true → SomeIs c names) → (b : Bool) → is_listed c n ≡ b
    → (b || list_any (is_listed c) names) ≡ true → SomeIs c (n ∷ names)
some-at c n names rest true e h = let is = named c n e in (n, (zero, omega arith, refl), is.0, is.1)
some-at c n names rest false e h = let later = rest h in (later.0, in-tail n later.0 names later.1, later.2, later.3)

some-is : (c : Certificate) (names : List (List ℕ)) → list_any (is_listed c) names ≡ true → SomeIs c names
some-is c [] h = cc
some-is c (n ∷ names) h = some-at c n names (some-is c names) (is_listed c n) refl h

at-listed : (c : Certificate) (names : List (List ℕ)) (name : List ℕ) (k : ℕ) → k < length names → slice_index_or names k name ≡ name
    → is_listed c name ≡ true → list_any (is_listed c) names ≡ true
at-listed c [] name k below same is = absurd (omega arith)
at-listed c (n ∷ names) name zero below same is =
    let here : is_listed c n ≡ true = ap (is_listed c) same ∙ is in
    rw here refl
at-listed c (n ∷ names) name (suc k) below same is = or-true (is_listed c n) (at-listed c names name k (omega arith) same is)

listed-decides : (c : Certificate) (names : List (List ℕ)) → Decides (list_any (is_listed c) names) (SomeIs c names)
listed-decides c names = (some-is c names, λ h. at-listed c names h.0 h.1.0 h.1.1 h.1.2 (is-named c h.0 h.2 h.3))

none-empty : (xs : List (List ℕ)) → (length xs == 0) ≡ true → xs ≡ []
none-empty [] h = refl
none-empty (x ∷ xs) h =
    let bad : length (x ∷ xs) ≡ 0 = (Decides-eqb _ 0).0 h in
    absurd (omega arith)

some-named : (c : Certificate) (name : List ℕ) → HasPrincipal c name → no_principals c ≡ false
some-named c name h =
    let below : h.0 < length c.principals = h.1 in
    ne_eqb (length c.principals) 0 (λ e. omega arith)

for-all : (empty : EmptyPrincipals) (c : Certificate) → no_principals c ≡ true → is_for_none empty c ≡ false → IsForAll empty c
for-all Any c e h = none-empty c.principals e
for-all Never c e h =
    let bad : true ≡ false = sym e ∙ h in
    cc

all-none : (empty : EmptyPrincipals) (c : Certificate) → IsForAll empty c → no_principals c ≡ true
all-none Any c h = rw h refl
all-none Never c h = absurd h

-- it serves where the test says so, and an empty list is not refused
pub serving : (empty : EmptyPrincipals) (list : Option (List ℕ)) (user : List ℕ) (c : Certificate) → serves list user c ≡ true → is_for_none empty c ≡ false
    → Serves empty list user c
serving empty (Some list) user c h some = (listed-decides c (listed_names list)).0 h
serving empty None user c h some = go (no_principals c) refl h
  where
    go : (b : Bool) → no_principals c ≡ b → (b || has_principal c user) ≡ true → IsForAll empty c ⊎ HasPrincipal c user
    go true e h = inl (for-all empty c e some)
    go false e h = inr ((member-decides user c.principals).0 h)

pub served : (empty : EmptyPrincipals) (list : Option (List ℕ)) (user : List ℕ) (c : Certificate) → Serves empty list user c → serves list user c ≡ true
served empty (Some list) user c h = (listed-decides c (listed_names list)).1 h
served empty None user c h = elim h [
  | inl all ↦ let none : no_principals c ≡ true = all-none empty c all in rw none refl
  | inr has ↦ or-true (no_principals c) ((member-decides user c.principals).1 has)
]

pub served_named : (empty : EmptyPrincipals) (list : Option (List ℕ)) (user : List ℕ) (c : Certificate) → Serves empty list user c → is_for_none empty c ≡ false
served_named Any list user c h = refl
served_named Never (Some list) user c h = some-named c h.0 h.3
served_named Never None user c h = elim h [
  | inl all ↦ absurd all
  | inr has ↦ some-named c user has
]
