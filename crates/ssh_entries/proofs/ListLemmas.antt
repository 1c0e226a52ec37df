-- Lists of patterns and their empty items.
use Rattle.ssh_entries.proofs.Imports.{◌≡◌, ◌≢◌, ℕ, Bool, true, false, ◌||◌, List, [], ◌∷◌, map, Option, refl, Any, list_any, AllByRecursion, Any-from_list_any, Item, item_of, pieces, pieces_left, is_empty, has_empty_item}

-- whether the item of a piece is empty
abbrev pub is_empty_piece : List ℕ → Bool
is_empty_piece piece = is_empty (item_of piece).text

any-map : (parts : List (List ℕ)) → list_any is_empty_piece parts ≡ list_any (λ item. is_empty item.text) (map item_of parts)
any-map [] = refl
any-map (part ∷ parts) = rw (any-map parts) refl

-- whether an item is empty of what is left of a list, if anything is
abbrev pub empty_left : Option (List ℕ) → Bool
empty_left left = list_any is_empty_piece (pieces_left left)

-- an item is empty where a piece has an empty item
pub empty_item-pieces : (list : List ℕ) → list_any is_empty_piece (pieces list) ≡ has_empty_item list
empty_item-pieces list = any-map (pieces list)

empty-none : (text : List ℕ) → is_empty text ≡ false → text ≢ []
empty-none [] h = cc
empty-none (c ∷ cs) h = λ e. cc

none-empty : (text : List ℕ) → text ≢ [] → is_empty text ≡ false
none-empty [] h = absurd (h refl)
none-empty (c ∷ cs) h = refl

or-false : (a b : Bool) → (a || b) ≡ false → (a ≡ false) × (b ≡ false)
or-false true b h = cc
or-false false b h = (refl, h)

-- no item is empty where the test finds none
pub some-from_test : (items : List Item) → list_any (λ item. is_empty item.text) items ≡ false → AllByRecursion (λ item. item.text ≢ []) items
some-from_test [] h = tt
some-from_test (item ∷ items) h =
    let parts = or-false (is_empty item.text) (list_any (λ item. is_empty item.text) items) h in
    (empty-none item.text parts.0, some-from_test items parts.1)

pub test-from_some : (items : List Item) → AllByRecursion (λ item. item.text ≢ []) items → list_any (λ item. is_empty item.text) items ≡ false
test-from_some [] h = refl
test-from_some (item ∷ items) h = rw (none-empty item.text h.0) (test-from_some items h.1)

is-empty : (text : List ℕ) → is_empty text ≡ true → text ≡ []
is-empty [] h = refl
is-empty (c ∷ cs) h = cc

-- some item is empty where the test finds one
pub empty-from_test : (items : List Item) → list_any (λ item. is_empty item.text) items ≡ true → Any (λ item. item.text ≡ []) items
empty-from_test items h =
    let found = Any-from_list_any (λ (item : Item). is_empty item.text) items h in
    (found.0, found.1, found.2, found.3, is-empty found.1.text found.4)
