-- A text of a table, by its number.
use Rattle.std.proofs.Common.{◌≡◌, ℕ, ◌<◌, ◌≤◌, List, [], length, map, get_or, ap, refl, sym}
use Rattle.std.specs.Borrow.{Bor}
use Rattle.std.specs.List.{slice_get}
use Rattle.std.specs.Option.{unwrap_or}
use Rattle.std.proofs.lemmas.Option.{slice_get-get_or, slice_get-map, slice_get_past}

pub text_at : (texts : List (Bor (List ℕ))) (n : ℕ) (x : Bor (List ℕ)) → n < length texts → x ≡ get_or texts n x
    → unwrap_or (slice_get (map (λ (t : Bor (List ℕ)). t.now) texts) n) [] ≡ x.now
text_at texts n x h e =
    rw (slice_get-map (λ (t : Bor (List ℕ)). t.now) texts n, slice_get-get_or texts n x h) (ap (λ (t : Bor (List ℕ)). t.now) (sym e))

pub no_text : (texts : List (Bor (List ℕ))) (n : ℕ) → length texts ≤ n
    → unwrap_or (slice_get (map (λ (t : Bor (List ℕ)). t.now) texts) n) [] ≡ []
no_text texts n h = rw (slice_get-map (λ (t : Bor (List ℕ)). t.now) texts n, slice_get_past texts n h) refl

-- the name of a number
pub name_of : (names : List (List ℕ)) (n : ℕ) (x : List ℕ) → n < length names → x ≡ get_or names n x → unwrap_or (slice_get names n) [] ≡ x
name_of names n x h e = rw (slice_get-get_or names n x h) (sym e)

pub no_name : (names : List (List ℕ)) (n : ℕ) → length names ≤ n → unwrap_or (slice_get names n) [] ≡ []
no_name names n h = rw (slice_get_past names n h) refl
