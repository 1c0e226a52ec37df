-- A sorted set of names, and the list whose names it has.
use Rattle.std.specs.Prelude.{◌≡◌, ℕ, Bool, List, is_some}
use Rattle.std.specs.Borrow.{Bor}
use Rattle.std.specs.BTreeMap.{BTreeMap, get_by}
use Rattle.std.specs.Cmp.Lexicographic.{slice_cmp}
use Rattle.std.specs.List.{list_any}
use Rattle.std.specs.Ordering.{nat_cmp}
use Rattle.std.specs.Str.{bytes_eq}

-- whether the set has the name
abbrev pub holds : BTreeMap (Bor (List ℕ)) (Unit {0}) → List ℕ → Bool
holds names name = is_some (get_by (λ key. slice_cmp nat_cmp name key.now) names)

-- the set has the names of the list, and no others
abbrev pub holds_all : BTreeMap (Bor (List ℕ)) (Unit {0}) → List (List ℕ) → Type 0
holds_all names list = (name : List ℕ) → holds names name ≡ list_any (λ x. bytes_eq name x) list
