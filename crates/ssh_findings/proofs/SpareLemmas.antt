-- If nothing is reported, no part of it is.
use Rattle.ssh_findings.proofs.Imports.{◌≡◌, ◌++◌, List, [], ◌∷◌, refl}

pub none_in_front : {A : Type 0} (xs ys : List A) → xs ++ ys ≡ [] → xs ≡ []
none_in_front [] ys h = refl
none_in_front (x ∷ xs) ys h = cc

pub none_behind : {A : Type 0} (xs ys : List A) → xs ++ ys ≡ [] → ys ≡ []
none_behind [] ys h = h
none_behind (x ∷ xs) ys h = cc
