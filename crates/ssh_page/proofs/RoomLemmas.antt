-- What is stored in a room.
use Rattle.std.proofs.Common.{◌≡◌, ◌∙◌, ◌+◌, ◌≤◌, ℕ, List, ◌++◌, length, take, ap, sym}
use Rattle.std.proofs.lemmas.List.{length-take-le, take-append-le}
use Rattle.std.proofs.Math.Seq.{take-append-add}
use borrow.Rule.Slice.PartMut.{post_of, put_mid}

-- the front of what is stored stands behind what was there
pub stored_front : (a k n : ℕ) (xs ys bytes : List ℕ) → ys ≡ bytes → a ≤ length xs → n ≤ length bytes
    → take (a + n) (put_mid a k xs ys) ≡ take a xs ++ take n bytes
stored_front a k n xs ys bytes same within few =
    ap (λ m. take (m + n) (take a xs ++ (ys ++ post_of a k xs))) (sym (length-take-le a xs within))
    ∙ take-append-add (take a xs) (ys ++ post_of a k xs) n
    ∙ ap (λ l. take a xs ++ take n (l ++ post_of a k xs)) same
    ∙ ap (λ l. take a xs ++ l) (take-append-le n bytes (post_of a k xs) few)
