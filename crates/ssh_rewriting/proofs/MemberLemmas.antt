-- Elements of lists, by recursion.
use Rattle.ssh_rewriting.proofs.Imports.{◌≡◌, ◌⊎◌, ℕ, zero, suc, inl, inr, List, [], ◌∷◌, ◌++◌, drop, arith, Contains}

-- the list has the element
abbrev pub Mem : {X : Type 0} → List X → X → Type 0
Mem [] x = ⊥
Mem (y ∷ ys) x = (y ≡ x) ⊎ Mem ys x

pub mem-from : {X : Type 0} (xs : List X) (x : X) → Contains xs x → Mem xs x
mem-from [] x (k, inside, is) = absurd (omega (arith, inside))
mem-from (y ∷ ys) x (zero, inside, is) = inl is
mem-from (y ∷ ys) x (suc k, inside, is) = inr (mem-from ys x (k, omega (arith, inside), is))

pub mem-to : {X : Type 0} (xs : List X) (x : X) → Mem xs x → Contains xs x
mem-to [] x h = absurd h
mem-to (y ∷ ys) x (inl e) = (0, omega arith, e)
mem-to (y ∷ ys) x (inr h) = let found = mem-to ys x h in (suc found.0, omega (arith, found.1), found.2)

pub mem-left : {X : Type 0} (xs ys : List X) (x : X) → Mem xs x → Mem (xs ++ ys) x
mem-left [] ys x h = absurd h
mem-left (z ∷ xs) ys x (inl e) = inl e
mem-left (z ∷ xs) ys x (inr h) = inr (mem-left xs ys x h)

pub mem-right : {X : Type 0} (xs ys : List X) (x : X) → Mem ys x → Mem (xs ++ ys) x
mem-right [] ys x h = h
mem-right (z ∷ xs) ys x h = inr (mem-right xs ys x h)

pub mem-cases : {X : Type 0} (xs ys : List X) (x : X) → Mem (xs ++ ys) x → Mem xs x ⊎ Mem ys x
mem-cases [] ys x h = inr h
mem-cases (z ∷ xs) ys x (inl e) = inl (inl e)
mem-cases (z ∷ xs) ys x (inr h) = elim (mem-cases xs ys x h) [ inl a ↦ inl (inr a) | inr b ↦ inr b ]

pub mem-drop : {X : Type 0} (n : ℕ) (xs : List X) (x : X) → Mem (drop n xs) x → Mem xs x
mem-drop zero xs x h = h
mem-drop (suc n) [] x h = absurd h
mem-drop (suc n) (y ∷ ys) x h = inr (mem-drop n ys x h)
