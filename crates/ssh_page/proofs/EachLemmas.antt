-- What one part for each of a list has.
use Rattle.std.proofs.Common.{◌≡◌, ◌∙◌, Bool, true, false, cond, if◌then◌else◌, List, [], ◌∷◌, ◌++◌, filter, map, refl, ap}
use Rattle.std.specs.List.{flat_map}
use Rattle.ssh_page.specs.Documents.{Document, each, marks, texts_of}

pub each_marks : {A : Type 0} (part : A → Document) (xs : List A) → marks (each part xs) ≡ flat_map (λ x. marks (part x)) xs
each_marks part [] = refl
each_marks part (x ∷ xs) = ap (λ bytes. marks (part x) ++ bytes) (each_marks part xs)

-- the same of what these are seen as
pub each_of_marks : {A B : Type 0} (part : B → Document) (seen : A → B) (xs : List A) → marks (each part (map seen xs)) ≡ flat_map (λ x. marks (part (seen x))) xs
each_of_marks part seen [] = refl
each_of_marks part seen (x ∷ xs) = ap (λ bytes. marks (part (seen x)) ++ bytes) (each_of_marks part seen xs)

-- the same of those that are kept
pub each_kept : {A : Type 0} (part : A → Document) (kept : A → Bool) (xs : List A)
    → marks (each part (filter kept xs)) ≡ flat_map (λ x. if kept x then marks (part x) else []) xs
each_kept part kept [] = refl
each_kept part kept (x ∷ xs) = go (kept x) (each_kept part kept xs)
  where
    go : (is : Bool) → marks (each part (filter kept xs)) ≡ flat_map (λ y. if kept y then marks (part y) else []) xs
        → marks (each part (cond is (x ∷ filter kept xs) (filter kept xs)))
        ≡ cond is (marks (part x)) [] ++ flat_map (λ y. if kept y then marks (part y) else []) xs
    go true later = ap (λ bytes. marks (part x) ++ bytes) later
    go false later = later

-- no texts, if no part has one
pub each_textless : {A : Type 0} (part : A → Document) → ((x : A) → texts_of (part x) ≡ []) → (xs : List A) → texts_of (each part xs) ≡ []
each_textless part h [] = refl
each_textless part h (x ∷ xs) = ap (λ texts. texts ++ texts_of (each part xs)) (h x) ∙ each_textless part h xs
