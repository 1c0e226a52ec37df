-- What a list contains, and tests of which one holds.
use Rattle.ssh_review.proofs.Imports.{◌≡◌, ◌⊎◌, zero, suc, Bool, true, false, ◌||◌, List, [], ◌∷◌, refl, inl, inr, arith, Contains}

pub contains-here : {X : Type 0} (head x : X) (rest : List X) → head ≡ x → Contains (head ∷ rest) x
contains-here head x rest e = (zero, omega arith, e)

pub contains-later : {X : Type 0} (head x : X) (rest : List X) → Contains rest x → Contains (head ∷ rest) x
contains-later head x rest (i, lt, at) = (suc i, omega arith, at)

pub contains-cases : {X : Type 0} (head x : X) (rest : List X) → Contains (head ∷ rest) x → (head ≡ x) ⊎ Contains rest x
contains-cases head x rest (zero, lt, at) = inl at
contains-cases head x rest (suc i, lt, at) = inr (i, omega arith, at)

pub contains-none : {X : Type 0} (x : X) → Contains [] x → ⊥
contains-none x (i, lt, at) = absurd (omega arith)

pub or-here : (a b : Bool) → a ≡ true → (a || b) ≡ true
or-here true b h = refl
or-here false b h = cc

pub or-later : (a b : Bool) → b ≡ true → (a || b) ≡ true
or-later true b h = refl
or-later false b h = h
