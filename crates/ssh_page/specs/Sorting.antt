-- A list in an order, of which elements that tie stay in theirs (this project's rule, as a stable sort).
use Rattle.std.specs.Prelude.{◌∷◌, [], Bool, List, if◌then◌else◌}

-- an element in front of the first that is not before it
abbrev pub put_before : {X : Type 0} → (X → X → Bool) → X → List X → List X
put_before is_before x [] = x ∷ []
put_before is_before x (y ∷ ys) = if is_before y x then y ∷ put_before is_before x ys else x ∷ y ∷ ys

-- all elements, by the test of which of two comes before the other
abbrev pub in_order : {X : Type 0} → (X → X → Bool) → List X → List X
in_order is_before [] = []
in_order is_before (x ∷ xs) = put_before is_before x (in_order is_before xs)
