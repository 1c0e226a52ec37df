-- The meaning of tests and of the rows of a table.
use Rattle.ssh_rules.proofs.Imports.{◌≡◌, ◌∙◌, ◌==◌, ◌&&◌, ◌||◌, ◌≤◌, ◌<◌, ℕ, Bool, true, false, not, List, [], ◌∷◌, Option, Some, None, sym, refl, nat_lt, T, ℤ, ◌≤ℤ◌, nat_le, Decides, le_z, le_z_yes, AllByRecursion, list_all, list_any, ltb-false, le-ltb, leb-false, lt-leb, Decides-eqb, Certificate, time_of, Permit, Yes, No, Bad, Mismatch, Reason, first_mismatch, key_row, or_later, permit_row, role_row, time_row, when}

-- ---- rows

-- no row holds
abbrev pub NoneHolds : List (Option Mismatch) → Type 0
NoneHolds rows = AllByRecursion (λ row. row ≡ None) rows

pub none_of : (rows : List (Option Mismatch)) → first_mismatch rows ≡ None → NoneHolds rows
none_of [] h = tt
none_of (None ∷ rows) h = (refl, none_of rows h)
none_of (Some o ∷ rows) h = cc

pub of_none : (rows : List (Option Mismatch)) → NoneHolds rows → first_mismatch rows ≡ None
of_none [] h = refl
of_none (None ∷ rows) h = of_none rows h.1
of_none (Some o ∷ rows) h =
    let bad : Some o ≡ None = h.0 in
    cc

pub both_none : (a b : Option Mismatch) → or_later a b ≡ None → (a ≡ None) × (b ≡ None)
both_none None b h = (refl, h)
both_none (Some o) b h = cc

pub none_both : (a b : Option Mismatch) → a ≡ None → b ≡ None → or_later a b ≡ None
none_both None b h k = k
none_both (Some o) b h k = cc

pub key_held : (b : Bool) → key_row b ≡ None → b ≡ true
key_held true h = refl
key_held false h = cc

pub held_key : (b : Bool) → b ≡ true → key_row b ≡ None
held_key true h = refl
held_key false h = cc

pub same_role : (a c : Bool) → role_row a c ≡ None → a ≡ c
same_role true true h = refl
same_role true false h = cc
same_role false true h = cc
same_role false false h = refl

pub role_same : (a c : Bool) → a ≡ c → role_row a c ≡ None
role_same true true h = refl
role_same true false h = cc
role_same false true h = cc
role_same false false h = refl

pub off : (b : Bool) (why : Reason) → when b why ≡ None → b ≡ false
off false why h = refl
off true why h = cc

pub when_off : (b : Bool) (why : Reason) → b ≡ false → when b why ≡ None
when_off false why h = refl
when_off true why h = cc

pub permitted : (bad refused : Reason) (p : Permit) → permit_row bad refused p ≡ None → p ≡ Yes
permitted bad refused Yes h = refl
permitted bad refused No h = cc
permitted bad refused Bad h = cc

pub yes_row : (bad refused : Reason) (p : Permit) → p ≡ Yes → permit_row bad refused p ≡ None
yes_row bad refused Yes h = refl
yes_row bad refused No h = cc
yes_row bad refused Bad h = cc

-- ---- tests of two values

pub not_off : (b : Bool) → not b ≡ false → b ≡ true
not_off true h = refl
not_off false h = cc

pub off_not : (b : Bool) → b ≡ true → not b ≡ false
off_not true h = refl
off_not false h = cc

pub or_off : (a b : Bool) → a || b ≡ false → (a ≡ false) × (b ≡ false)
or_off false b h = (refl, h)
or_off true b h = cc

pub off_or : (a b : Bool) → a ≡ false → b ≡ false → a || b ≡ false
off_or false b h k = k
off_or true b h k = cc

pub and_on : (a b : Bool) → (a && b) ≡ true → (a ≡ true) × (b ≡ true)
and_on true true h = (refl, refl)
and_on true false h = cc
and_on false b h = cc

-- ---- tests of lists

-- each element passes
pub each-decides : {X : Type 0} (p : X → Bool) (xs : List X) → Decides (list_all p xs) (AllByRecursion (λ x. p x ≡ true) xs)
each-decides p [] = (λ h. tt, λ h. refl)
each-decides p (x ∷ xs) = go (each-decides p xs) (p x) refl
  where
    go : Decides (list_all p xs) (AllByRecursion (λ y. p y ≡ true) xs) → (b : Bool) → p x ≡ b
        → Decides (list_all p (x ∷ xs)) (AllByRecursion (λ y. p y ≡ true) (x ∷ xs))
    go rest true e = (λ h. (e, rest.0 (rw e at h)), λ h. rw e (rest.1 h.1))
    go rest false e = (
      λ h.
          let bad : false ≡ true = rw e at h in
          cc,
      λ h.
          let bad : true ≡ false = sym h.0 ∙ e in
          cc,
    )

-- no element fails exactly where each is so
pub none-fails : {X : Type 0} (p : X → Bool) (P : X → Type 0) → ((x : X) → (p x ≡ false → P x) × (P x → p x ≡ false)) → (xs : List X)
    → (list_any p xs ≡ false → AllByRecursion P xs) × (AllByRecursion P xs → list_any p xs ≡ false)
none-fails p P d [] = (λ h. tt, λ h. refl)
none-fails p P d (x ∷ xs) =
    let rest = none-fails p P d xs in (
      λ h. let both = or_off (p x) (list_any p xs) h in ((d x).0 both.0, rest.0 both.1),
      λ h. off_or (p x) (list_any p xs) ((d x).1 h.0) (rest.1 h.1),
    )

-- ---- numbers

true-of : (b : Bool) → T b → b ≡ true
true-of true h = refl
true-of false h = absurd h

of-true : (b : Bool) → b ≡ true → T b
of-true true h = tt
of-true false h = cc

pub le_z-decides : (a b : ℤ) → Decides (le_z a b) (a ≤ℤ b)
le_z-decides a b = (λ h. le_z_yes (of-true (le_z a b) h), λ h. true-of (le_z a b) h.le)

pub same_number : (a b : ℕ) → not (a == b) ≡ false → a ≡ b
same_number a b h = (Decides-eqb a b).0 (not_off (a == b) h)

pub number_off : (a b : ℕ) → a ≡ b → not (a == b) ≡ false
number_off a b h = off_not (a == b) ((Decides-eqb a b).1 h)

-- ---- where a moment lies

pub in_time : (c : Certificate) (now : ℕ) → time_row (time_of c now) ≡ None → (c.after ≤ now) × (now < c.before)
in_time c now h = go (nat_lt now c.after) refl (nat_le c.before now) refl
  where
    go : (early : Bool) → nat_lt now c.after ≡ early → (late : Bool) → nat_le c.before now ≡ late → (c.after ≤ now) × (now < c.before)
    go true e late l =
        let bad : Some _ ≡ None = rw e at h in
        cc
    go false e true l =
        let bad : Some _ ≡ None = rw (e, l) at h in
        cc
    go false e false l = (ltb-false now c.after e, leb-false c.before now l)

pub time_in : (c : Certificate) (now : ℕ) → c.after ≤ now → now < c.before → time_row (time_of c now) ≡ None
time_in c now begun over =
    let early : nat_lt now c.after ≡ false = le-ltb now c.after begun in
    let late : nat_le c.before now ≡ false = lt-leb c.before now over in
    rw (early, late) refl
