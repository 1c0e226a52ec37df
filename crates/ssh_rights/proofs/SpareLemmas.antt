-- Where nothing is carried on, no option carries a text.
use Rattle.ssh_rights.proofs.Imports.{◌≡◌, ◌++◌, List, [], ◌∷◌, refl}

none-in-front : {A : Type 0} (ys zs : List A) → ys ++ zs ≡ [] → ys ≡ []
none-in-front [] zs h = refl
none-in-front (y ∷ ys) zs h = cc

pub none_in_the_middle : {A : Type 0} (xs ys zs : List A) → xs ++ (ys ++ zs) ≡ [] → ys ≡ []
none_in_the_middle [] ys zs h = none-in-front ys zs h
none_in_the_middle (x ∷ xs) ys zs h = cc
