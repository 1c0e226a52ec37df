-- Lists, piece by piece.
use Rattle.ssh_patterns.proofs.Imports.{◌≡◌, ℕ, ◌+◌, ◌*◌, ◌≤◌, ◌++◌, ◌∙◌, ap, arith, length-append, Bool, true, false, not, ◌||◌, ◌&&◌, List, [], ◌∷◌, map, length, refl, list_any, mul-le, Permit, Item, item_of, items_of, pieces, permit, permits, is_yes}
use Rattle.ssh_patterns.specs.Lists.{permit_by}

-- the answer of the pieces that are left, after some items were refused or matched
abbrev pub verdict_after : (Item → Bool) → (List ℕ → Bool) → Bool → Bool → List (List ℕ) → Permit
verdict_after is_bad matches refused matched left =
    permit (list_any is_bad (map item_of left))
    (not (refused || list_any (λ item. item.negated && matches item.text) (map item_of left))
    && (matched || list_any (λ item. not item.negated && matches item.text) (map item_of left)))

pub verdict-start : (is_bad : Item → Bool) (matches : List ℕ → Bool) (list : List ℕ)
    → verdict_after is_bad matches false false (pieces list) ≡ permit_by is_bad matches list
unfolding permit_by
verdict-start is_bad matches list = refl

-- a piece, its comma and what is left are the list
pub piece-lengths : (comma : ℕ) (list piece left : List ℕ) → list ≡ piece ++ comma ∷ left
    → length piece + 1 + (length left + 1) ≤ length list + 1
piece-lengths comma list piece left e =
    let whole : length list ≡ length piece + length (comma ∷ left) = ap length e ∙ length-append piece (comma ∷ left) in
    omega (arith, whole)

-- The steps for one more item: its bytes and its end are among those of the list.
pub more-steps : (steps taken item piece left pieces whole width : ℕ) → steps + (pieces + 1) * width ≤ whole
    → taken ≤ (item + 1) * width → item ≤ piece → piece + 1 + left ≤ pieces + 1 → steps + taken + left * width ≤ whole
more-steps steps taken item piece left pieces whole width now here short parts =
    omega (arith, now, here, mul-le (item + 1 + left) width (pieces + 1) width (omega (arith, short, parts)) (omega arith))

none_bad : (items : List Item) → list_any (λ item. false) items ≡ false
none_bad [] = refl
none_bad (item ∷ items) = none_bad items

yes-by : (p : Bool) → is_yes (permit false p) ≡ p
yes-by true = refl
yes-by false = refl

-- where no item is bad, the answer of a list is yes or no
pub yes-permits : (matches : List ℕ → Bool) (list : List ℕ)
    → is_yes (permit_by (λ item. false) matches list) ≡ permits matches (items_of list)
unfolding permit_by
yes-permits matches list = rw (none_bad (items_of list)) (yes-by (permits matches (items_of list)))
