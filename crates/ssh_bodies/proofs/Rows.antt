-- Rows of fields in front of other bytes.
use Rattle.ssh_bodies.proofs.Imports.{◌≡◌, ℕ, ◌+◌, ◌^◌, ◌<◌, List, [], ◌∷◌, ◌++◌, length, refl, ap, ◌∙◌, append_assoc, arith, concat, length-append, Position}

-- the fields, and then the rest
abbrev pub onto : List (List ℕ) → List ℕ → List ℕ
onto [] rest = rest
onto (field ∷ fields) rest = field ++ onto fields rest

pub onto-is : (fields : List (List ℕ)) (rest : List ℕ) → concat fields ++ rest ≡ onto fields rest
onto-is [] rest = refl
onto-is (field ∷ fields) rest = append_assoc field (concat fields) rest ∙ ap (λ (t : List ℕ). field ++ t) (onto-is fields rest)

-- the place after the fields
abbrev pub place_after : ℕ → List (List ℕ) → ℕ
place_after place [] = place
place_after place (field ∷ fields) = place_after (place + length field) fields

-- where the fields are complete
abbrev pub at_row : ℕ → List (List ℕ) → List ℕ → Position
at_row place fields rest = record { place = place; rest = onto fields rest }

-- each field is short
abbrev pub Short : List (List ℕ) → Type 0
Short [] = Unit {0}
Short (field ∷ fields) = (length field < 2 ^ 32 + 4) × Short fields

pub are_short : (fields : List (List ℕ)) → length (concat fields) < 2 ^ 32 + 4 → Short fields
are_short [] few = tt
are_short (field ∷ fields) few = (omega (arith, few, length-append field (concat fields)), are_short fields (omega (arith, few, length-append field (concat fields))))
